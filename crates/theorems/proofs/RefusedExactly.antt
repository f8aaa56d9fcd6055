-- Each refusal of each call of a manager that calls made is given exactly when document 01's column says.
use Rattle.std.specs.Prelude.{Option, Some, None, Result, Ok, Err}
use Prim.Native.Nat.{ℕ, ◌≤◌, ◌<◌}
use native.Mathlib.Omega.{arith}
use mathlib.Core.Path.{◌≡◌, refl, ap, subst}
use mathlib.Core.Bool.{Bool, true, false}
use mathlib.Core.List.{List, [], ◌∷◌}
use mathlib.Core.Logic.{inl, inr}
use lib.Dec.{ltb, leb, eqb}
use lib.ListN.{length}
use borrow.Author.Tests.{eqb-true, eqb-false, leb-true, leb-false, ltb-true, ltb-false}
use Rattle.codec.specs.Bytes.{Bytes}
use Rattle.con_reply.specs.Reply.{reply_of}
use Rattle.laws.specs.Checks.{Check, check}
use Rattle.laws.specs.Pick.{pick}
use Rattle.laws.proofs.Choices.{decided, either}
use Rattle.manager.specs.Calls.{After, Call, Effect, Job, called, idle_of, number_of, output_size, replies, reply_at, reply_by, reply_from, seat_in, seat_of, start_at, start_of, started_as, starts, takes_number, turn_of, turns, walked_to}
use Rattle.manager.specs.Change.{change_done, same, taking}
use Rattle.manager.proofs.ValueCases.{value_by_lem}
use Rattle.man_table.specs.Table.{blank, find_in, free_room, live, store_size, held_at, target_at, target_of, room_in}
use Rattle.man_table.specs.Walk.{Walking, refused, stopped, through, walk_list}
use Rattle.theorems.specs.Causes.{
  BusyAs,
  ExactlyWhen,
  FullAs,
  OutOfRange,
  OverflowsAs,
  Sets,
  checks_of,
  job_checks,
  reply_checks,
  start_checks,
  turn_checks,
  turn_does,
}
use Rattle.theorems.specs.Run.{Host, Lends, another, lent_store, made, own, reached}
use Rattle.theorems.specs.Sound.{Reached, Sane, Sound}
use Rattle.theorems.specs.Types.{
  Answer,
  Change,
  Decision,
  Done,
  Entry,
  Now,
  Refusal,
  SdoClientConnection as Connection,
  SdoClientManager as Manager,
  SdoCommand,
  SequenceLayerHeader,
  Turn,
}
use Rattle.theorems.proofs.Cases.{FoundAs, found_as}
use Rattle.theorems.proofs.Checks.{Answers, Unrefused, answer_of, exactly, start_checks_lem}
use Rattle.theorems.proofs.AllReached.{all_sound}
use Rattle.theorems.proofs.ReplyChecks.{NoRoomIf, reply_if}
use Rattle.theorems.proofs.Rooms.{room_length}
use Rattle.theorems.proofs.StartBy.{fresh, start_on}
use Rattle.theorems.proofs.TurnChecks.{RefusedIf, walk_if}
use Rattle.theorems.proofs.WrongStore.{wrong_store}

-- ---- starts
started_answer : (x : Result Connection Refusal) (entry : Entry) → answer_of x ≡ (started_as x entry).answer
unfolding pick
started_answer (Ok d) entry = refl
started_answer (Err r) entry = go (takes_number r)
  where
    go : (b : Bool) → Answer.Refused r ≡ (pick b (taking (idle_of entry) (Answer.Refused r)) (same (Answer.Refused r))).answer
    go true = refl
    go false = refl

-- a change's answer is its call's
done_answer : (m : Manager) (c : Change) → c.answer ≡ (change_done m c).answer
unfolding change_done
done_answer m c = either (λ (d : Done). c.answer ≡ d.answer) c.sweeps _ _ refl refl

module _ (m : Manager) (store : Bytes) (sound : Sound m store) where
  module _ (node : ℕ) (job : Job) (n : Now) where
    -- after the store: whose job it is
    abbrev after : Option ℕ → List (Check Refusal)
    after f = check Refusal.TableFull (FullAs f m) ∷ check Refusal.Busy (BusyAs f m) ∷ job_checks job n

    abbrev Starts : List (Check Refusal) → Effect → Type 0
    Starts checks e = Answers checks e.change.answer

    module _ (long : length store ≡ store_size) where
      new : length (live m) < 8 → Starts (after None) (start_at (seat_of (Entry.New (fresh m node))) (Entry.New (fresh m node)) m job n store)
      new few =
          inr (
            λ z. omega arith,
            subst (Answers (check Refusal.Busy ⊥ ∷ job_checks job n))
                (started_answer (start_on m job n store (fresh m node)) (Entry.New (fresh m node)))
                (start_checks_lem ⊥ job (fresh m node) (number_of m) n (room_in store (fresh m node)) (room_length store long (free_room (live m)))
                (λ e. cc) (λ i z. z)),
          )

      target : (f : Option ℕ) → Starts (after f) (start_at (seat_of (target_at f m node)) (target_at f m node) m job n store)
      target (Some k) =
          inr (
            λ z. z,
            subst (Answers (check Refusal.Busy (BusyAs (Some k) m) ∷ job_checks job n))
                (started_answer (start_on m job n store (held_at m k)) (Entry.At k (held_at m k)))
                (start_checks_lem (BusyAs (Some k) m) job (held_at m k) (number_of m) n (room_in store (held_at m k))
                (room_length store long (held_at m k).room) (λ i. i) (λ i z. cc)),
          )
      target None =
          decided (λ (x : Entry). Starts (after None) (start_at (seat_of x) x m job n store)) (leb 8 (length (live m))) Entry.Nowhere _
          (λ h. inl (eight (leb-true _ _ h), refl)) (λ h. new (leb-false _ _ h))
        where
          eight : 8 ≤ length (live m) → length (live m) ≡ 8
          eight h = omega (arith, sound.few)

    start_answers : Starts (start_checks m store node job n) (start_of m node job n store)
    unfolding start_of seat_in target_of
    start_answers =
        decided (λ (s : Result Connection Refusal). Starts (start_checks m store node job n) (start_at s (target_at (find_in node (live m)) m node) m job n store))
        (eqb (length store) store_size) _ _
        (λ h. inr (λ z. z (eqb-true _ _ h), target (eqb-true _ _ h) (find_in node (live m))))
        (λ h. inl (eqb-false _ _ h, refl))

  -- ---- tick and ask
  walk_answers : (t : Turn) (n : Now) (output : Bytes) (w : Walking) → RefusedIf (OutOfRange n × Sets (turn_does t n) (live m)) w
      → Answers (check Refusal.DeadlineRange (OutOfRange n × Sets (turn_does t n) (live m)) ∷ []) (walked_to w m store output).done.answer
  walk_answers t n output (refused r) h = inl (h.1, ap Answer.Refused h.0)
  walk_answers t n output (through l) h = inr (h, λ q e. cc)
  walk_answers t n output (stopped k o l) h = inr (h, λ q e. cc)

  turn_answers : (t : Turn) (n : Now) (output : Bytes)
      → Answers (turn_checks t m store n output) (turn_of t m n store output).done.answer
  unfolding turn_of
  turn_answers t n output =
      decided (λ (a : After). Answers (turn_checks t m store n output) a.done.answer) (eqb (length store) store_size) _ _
      (λ h. inr (
        λ z. z (eqb-true _ _ h),
        decided (λ (a : After). Answers fitting a.done.answer) (ltb (length output) output_size) _ _
            (λ k. inl (ltb-true _ _ k, refl))
            (λ k. inr (enough (ltb-false _ _ k), walk_answers t n output (walk_list t n (live m)) (walk_if t n (live m)))),
      ))
      (λ h. inl (eqb-false _ _ h, refl))
    where
      fitting : List (Check Refusal)
      fitting =
          check Refusal.BufferTooShort (length output < output_size)
          ∷ check Refusal.DeadlineRange (OutOfRange n × Sets (turn_does t n) (live m))
          ∷ []

      enough : output_size ≤ length output → length output < output_size → ⊥
      enough h z = omega arith

  -- ---- reply
  module _ (node : ℕ) (seq : SequenceLayerHeader) (cmd : SdoCommand) (payload : Bytes) where
    abbrev Replies : List (Check Refusal) → Effect → Type 0
    Replies checks e = Answers checks e.change.answer

    decided_answers : (cause : Type 0) (k : ℕ) (c : Connection) (x : Decision) → NoRoomIf cause x
        → Replies (check Refusal.NoRoom cause ∷ []) (reply_by x k c payload store)
    unfolding NoRoomIf
    decided_answers cause k c (Decision.Keeps d) h = inr (h, value_by_lem Unrefused (λ r e. cc) (λ part r e. cc) d)
    decided_answers cause k c (Decision.Stores d from) h = inr (h, value_by_lem Unrefused (λ r e. cc) (λ part r e. cc) d)
    decided_answers cause k c Decision.NoRoom h = inl (h, refl)

    found_answers : length store ≡ store_size → (f : Option ℕ) → FoundAs node (live m) f
        → Replies (check Refusal.NoRoom (OverflowsAs f m seq cmd payload) ∷ []) (reply_at f m seq cmd payload store)
    found_answers long None a = inr (λ z. z, λ r e. cc)
    found_answers long (Some k) a =
        let s : Sane store (held_at m k) = sound.each k blank a.1 in
        decided_answers (OverflowsAs (Some k) m seq cmd payload) k (held_at m k)
        (reply_of seq cmd payload (held_at m k) (room_in store (held_at m k)))
        (reply_if (room_in store (held_at m k)) (room_length store long (held_at m k).room) seq cmd payload (held_at m k)
        s.consistent.last)

    reply_answers : Replies (reply_checks m store node seq cmd payload) (reply_from m node seq cmd payload store)
    unfolding reply_from
    reply_answers =
        decided (Replies (reply_checks m store node seq cmd payload)) (eqb (length store) store_size) _ _
        (λ h. inr (λ z. z (eqb-true _ _ h), found_answers (eqb-true _ _ h) (find_in node (live m)) (found_as node (live m))))
        (λ h. inl (eqb-false _ _ h, refl))

  pub call_answers : (output : Bytes) (x : Call) → Answers (checks_of m store output x) (called m store output x).done.answer
  unfolding called
  call_answers output (starts node job n) =
      subst (Answers (start_checks m store node job n)) (done_answer m (start_of m node job n store).change) (start_answers node job n)
  call_answers output (turns t n) = turn_answers t n output
  call_answers output (replies node seq cmd payload) =
      subst (Answers (reply_checks m store node seq cmd payload)) (done_answer m (reply_from m node seq cmd payload store).change)
      (reply_answers node seq cmd payload)

-- the store is checked first
wrong_answers : (m : Manager) (store output : Bytes) → (length store ≡ store_size → ⊥) → (x : Call)
    → Answers (checks_of m store output x) (Answer.Refused Refusal.WrongStore)
wrong_answers m store output ne (starts node job n) = inl (ne, refl)
wrong_answers m store output ne (turns t n) = inl (ne, refl)
wrong_answers m store output ne (replies node seq cmd payload) = inl (ne, refl)

pub exactly_when : ExactlyWhen
unfolding ExactlyWhen Reached
exactly_when lent earlier x r =
    exactly (checks_of host.manager (lent_store x.lends host.store) x.output x.call) (made host x).done.answer (go x.lends) r
  where
    host : Host
    host = reached lent earlier

    go : (l : Lends)
        → Answers (checks_of host.manager (lent_store l host.store) x.output x.call)
        (made host (record { call = x.call; lends = l; output = x.output })).done.answer
    go own = call_answers host.manager host.store (all_sound lent earlier) x.output x.call
    go (another store differs) =
        rw (wrong_store host.manager store x.output x.call differs)
        (wrong_answers host.manager store x.output differs x.call)
