-- A plan, carried out, is the call: of a start and a reply by definition, of a tick or an ask because the connections that rest are left as they are
-- and give nothing, so that the walk goes by the first that does not.
use Rattle.std.specs.Prelude.{Option, Some, None, Result, Ok, Err}
use Rattle.codec.specs.declared.refusal.Refusal.{Refusal}
use Rattle.con_rec.specs.declared.SdoClientConnection.{SdoClientConnection}
use Rattle.con_rec.specs.declared.Outgoing.{Outgoing}
use Rattle.con_rec.specs.declared.Step.{Step}
use Prim.Native.Nat.{ℕ, suc, ◌<◌}
use mathlib.Core.Path.{◌≡◌, refl, ap}
use mathlib.Core.Bool.{Bool, true, false}
use mathlib.Core.List.{List, [], ◌∷◌}
use lib.Dec.{eqb, ltb}
use lib.ListN.{length, get_or, set}
use lib.Seq.{get_or-set_same}
use Rattle.laws.proofs.Choices.{either}
use Rattle.laws.specs.Pick.{pick}
use Rattle.codec.specs.Bytes.{Bytes}
use Rattle.codec.specs.Writing.{buffer_after}
use Rattle.con_rec.specs.Payload.{payload_of}
use Rattle.man_table.proofs.Places.{Within, due_within}
use Rattle.man_table.proofs.RestingTurns.{rests_quiet}
use Rattle.man_table.specs.Resting.{due_in, rests_of}
use Rattle.man_table.specs.Table.{blank, held_at, live, one_further, room_in, store_size}
use Rattle.man_table.specs.Walk.{Walking, refused, through, stopped, passed, stop_or, at_turn, walk_step, walk_list}
use Rattle.manager.specs.Calls.{After, Call, called, output_size, replies, sent_to, starts, turn_of, turns, walked_to}
use Rattle.manager.specs.Change.{answering, change_done, entered_at, leaving, number_after, putting, refusing, same}
use Rattle.manager.specs.Plan.{Planned, plan_at, plan_change, plan_done, plan_given, plan_of, plan_step, turn_plan}
use Rattle.manager.specs.Types.{
  Answer,
  Done,
  Entry,
  Now,
  Plan,
  Refusal,
  SdoClientConnection,
  SdoClientManager,
  Turn,
}
use Rattle.manager.proofs.WalkCalls.{live_table}

-- ---- a walk by the first connection that does not rest: where that gives a command, or all rest

abbrev Given : Option Outgoing → SdoClientConnection → ℕ → List SdoClientConnection → Walking → Type 0
Given (Some o) d k l w = w ≡ stopped k o (set l k d)
Given None d k l w = Unit

abbrev Came : Result Step Refusal → ℕ → List SdoClientConnection → Walking → Type 0
Came (Err r) k l w = w ≡ refused r
Came (Ok s) k l w = Given s.sends s.connection k l w

abbrev Walks : Option ℕ → Turn → Now → List SdoClientConnection → Walking → Type 0
Walks None t n l w = w ≡ through l
Walks (Some k) t n l w = Came (at_turn t (get_or l k blank) n) k l w

module _ (t : Turn) (n : Now) where
  given_on : (c : SdoClientConnection) (l : List SdoClientConnection) (k : ℕ) (w : Walking) (s : Option Outgoing) (d : SdoClientConnection)
      → Given s d k l w → Given s d (suc k) (c ∷ l) (passed c w)
  given_on c l k w (Some o) d h = ap (passed c) h
  given_on c l k w None d h = tt

  came_on : (c : SdoClientConnection) (l : List SdoClientConnection) (k : ℕ) (w : Walking) (a : Result Step Refusal)
      → Came a k l w → Came a (suc k) (c ∷ l) (passed c w)
  came_on c l k w (Err r) h = ap (passed c) h
  came_on c l k w (Ok s) h = given_on c l k w s.sends s.connection h

  walks_on : (c : SdoClientConnection) (l : List SdoClientConnection) (w : Walking) (f : Option ℕ)
      → Walks f t n l w → Walks (one_further f) t n (c ∷ l) (passed c w)
  walks_on c l w None h = ap (passed c) h
  walks_on c l w (Some k) h = came_on c l k w (at_turn t (get_or l k blank) n) h

  here : (c : SdoClientConnection) (l : List SdoClientConnection) (on : Walking) (a : Result Step Refusal) → Came a 0 (c ∷ l) (walk_step a l on)
  here c l on (Err r) = refl
  here c l on (Ok s) = gives s.sends
    where
      gives : (x : Option Outgoing) → Given x s.connection 0 (c ∷ l) (stop_or x s.connection l on)
      gives (Some o) = refl
      gives None = tt

  due_walks : (l : List SdoClientConnection) → Walks (due_in t n l) t n l (walk_list t n l)
  unfolding pick
  due_walks [] = refl
  due_walks (c ∷ l) = go (rests_of t c n) refl (due_walks l)
    where
      go : (b : Bool) → rests_of t c n ≡ b → Walks (due_in t n l) t n l (walk_list t n l)
          → Walks (pick b (one_further (due_in t n l)) (Some 0)) t n (c ∷ l) (walk_step (at_turn t c n) l (walk_list t n l))
      go true e h = rw (rests_quiet t c n e) (walks_on c l (walk_list t n l) (due_in t n l) h)
      go false e h = here c l (walk_list t n l) (at_turn t c n)

-- ---- a change, done

pub same_done : (m : SdoClientManager) (a : Answer) → change_done m (same a) ≡ answering m a
unfolding change_done entered_at number_after pick
same_done m a = refl

pub put_done : (m : SdoClientManager) (k : ℕ) (d : SdoClientConnection) (a : Answer)
    → change_done m (putting (Entry.At k d) a) ≡ leaving (set (live m) k d) m.next_transaction_id a
unfolding change_done entered_at number_after pick
put_done m k d a = rw (live_table (set (live m) k d) m.next_transaction_id)

-- ---- a plan, carried out

-- the store is only read
step_keeps : (a : Result Step Refusal) (t : Turn) (k : ℕ) (n : Now) (store output : Bytes) → store ≡ (plan_step a t k n store output).store
step_keeps (Err r) t k n store output = refl
step_keeps (Ok s) t k n store output = given s.sends s.connection
  where
    given : (x : Option Outgoing) (d : SdoClientConnection) → store ≡ (plan_given x d t k n store output).store
    given (Some o) d = refl
    given None d = refl

pub step_whole : (a : Result Step Refusal) (t : Turn) (k : ℕ) (n : Now) (store output : Bytes) {p : Plan} {out : Bytes}
    → p ≡ (plan_step a t k n store output).plan → out ≡ (plan_step a t k n store output).output
    → ◌≡◌ {A = Planned} (record { plan = p; store = store; output = out }) (plan_step a t k n store output)
step_whole a t k n store output e f = λ i. record { plan = e i; store = step_keeps a t k n store output i; output = f i }

pub turn_keeps : (t : Turn) (m : SdoClientManager) (n : Now) (store output : Bytes) → store ≡ (turn_plan t m n store output).store
unfolding turn_plan
turn_keeps t m n store output =
    either Keeps (eqb (length store) store_size) _ _ (either Keeps (ltb (length output) output_size) _ _ refl (due (due_in t n (live m)))) refl
  where
    Keeps : Planned → Type 0
    Keeps p = store ≡ p.store

    due : (f : Option ℕ) → Keeps (plan_at f t m n store output)
    due None = refl
    due (Some k) = step_keeps (at_turn t (held_at m k) n) t k n store output

module _ (t : Turn) (m : SdoClientManager) (n : Now) (store output : Bytes) where
  abbrev Does : Planned → After → Type 0
  Does p a = plan_done p.plan m p.store p.output ≡ a

  abbrev carried : Done → Bytes → After
  carried d out = record { done = d; store = store; output = out }

  refuses_so : (r : Refusal) → Does (plan_change (same (Answer.Refused r)) store output) (carried (refusing m r) output)
  refuses_so r = ap (λ (d : Done). carried d output) (same_done m (Answer.Refused r))

  module _ (w : Walking) (by : turn_of t m n store output ≡ walked_to w m store output) where
    given_done : (s : Option Outgoing) (d : SdoClientConnection) (k : ℕ) → k < length (live m) → Given s d k (live m) w
        → Does (plan_given s d t k n store output) (walked_to w m store output)
    given_done (Some o) d k h e =
        let back : get_or (set (live m) k d) k blank ≡ d = get_or-set_same (live m) k d blank h in
        rw (e, back) (ap (λ (x : Done). carried x (buffer_after (payload_of (room_in store d) o) output)) (put_done m k d (sent_to d o)))
    given_done None d k h e = by

    step_done : (a : Result Step Refusal) (k : ℕ) → k < length (live m) → Came a k (live m) w → Does (plan_step a t k n store output) (walked_to w m store output)
    step_done (Err r) k h e = rw e (refuses_so r)
    step_done (Ok s) k h e = given_done s.sends s.connection k h e

    walk_done : (f : Option ℕ) → Within (length (live m)) f → Walks f t n (live m) w → Does (plan_at f t m n store output) (walked_to w m store output)
    unfolding change_done entered_at number_after pick
    walk_done None h e = rw e refl
    walk_done (Some k) h e = step_done (at_turn t (held_at m k) n) k h e

  turn_done : Does (turn_plan t m n store output) (turn_of t m n store output)
  unfolding turn_of turn_plan pick
  turn_done = go (eqb (length store) store_size) refl (ltb (length output) output_size) refl
    where
      go : (size : Bool) → eqb (length store) store_size ≡ size → (short : Bool) → ltb (length output) output_size ≡ short
          → Does
          (pick size (pick short (plan_change (same (Answer.Refused Refusal.BufferTooShort)) store output) (plan_at (due_in t n (live m)) t m n store output))
          (plan_change (same (Answer.Refused Refusal.WrongStore)) store output))
          (pick size (pick short (carried (refusing m Refusal.BufferTooShort) output) (walked_to (walk_list t n (live m)) m store output))
          (carried (refusing m Refusal.WrongStore) output))
      go false e short f = refuses_so Refusal.WrongStore
      go true e true f = refuses_so Refusal.BufferTooShort
      go true e false f =
          walk_done (walk_list t n (live m)) (rw (e, f) refl) (due_in t n (live m)) (due_within t n (live m)) (due_walks t n (live m))

pub plan_calls : (m : SdoClientManager) (store output : Bytes) (x : Call)
    → plan_done (plan_of m store output x).plan m (plan_of m store output x).store (plan_of m store output x).output ≡ called m store output x
unfolding plan_of called
plan_calls m store output (starts node job n) = refl
plan_calls m store output (turns t n) = turn_done t m n store output
plan_calls m store output (replies node seq cmd payload) = refl

-- a plan carried out leaves the store as it is: what a call puts there is there ahead of it
pub plan_keeps : (p : Plan) (m : SdoClientManager) (store output : Bytes) → store ≡ (plan_done p m store output).store
unfolding turn_of
plan_keeps (Plan.Change c) m store output = refl
plan_keeps (Plan.Walk t n) m store output =
    either Keeps (eqb (length store) store_size) _ _
    (either Keeps (ltb (length output) output_size) _ _ refl (walked (walk_list t n (live m)))) refl
  where
    Keeps : After → Type 0
    Keeps a = store ≡ a.store

    walked : (w : Walking) → Keeps (walked_to w m store output)
    walked (refused r) = refl
    walked (through l) = refl
    walked (stopped k o l) = refl
