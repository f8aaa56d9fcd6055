-- What a turn comes to by the walk's answer, and what is held by a table that a call leaves.
use Rattle.std.specs.Prelude.{Option, Some, None, Result, Ok, Err}
use Rattle.codec.specs.declared.refusal.Refusal.{Refusal}
use Rattle.con_rec.specs.declared.SdoClientConnection.{SdoClientConnection}
use Rattle.con_rec.specs.declared.Outgoing.{Outgoing}
use Rattle.con_rec.specs.declared.Step.{Step}
use Prim.Native.Nat.{ℕ, suc, min}
use native.Mathlib.Omega.{arith}
use mathlib.Core.Path.{◌≡◌, refl, sym, ap, ◌∙◌}
use mathlib.Core.Bool.{Bool, true, false}
use mathlib.Core.List.{List, [], ◌∷◌, ◌++◌, append-nil}
use lib.Dec.{leb}
use lib.ListN.{length, take, drop, get_or, drop_of_length-le, length-take}
use lib.Seq.{take_all, take_at, take-append_seam}
use borrow.Author.Tests.{leb-true, leb-false}
use Rattle.codec.specs.Bytes.{Bytes}
use Rattle.codec.specs.Writing.{buffer_after}
use Rattle.con_rec.specs.Payload.{payload_of}
use Rattle.manager.specs.Calls.{After, sent_to, walked_to}
use Rattle.manager.specs.Change.{leaving, refusing}
use Rattle.man_table.specs.Table.{blank, live, table_of, held_at, room_in}
use Rattle.manager.specs.Types.{
  Answer,
  Done,
  Now,
  Outgoing,
  Refusal,
  SdoClientConnection,
  SdoClientManager,
  Turn,
  Walk,
  Walked,
}
use Rattle.man_table.specs.Walk.{Walking, refused, through, stopped, passed, stop_or, at_turn, walk_step, walk_list, walk_answer, walk_of}

-- the list that a table holds comes back
pub live_table : (l : List SdoClientConnection) (number : ℕ) → live (table_of l number) ≡ l
live_table l number = take-append_seam l _

-- a walk leaves as many connections as there were
abbrev Long : ℕ → Walking → Type 0
Long n (refused r) = Unit
Long n (through l) = length l ≡ n
Long n (stopped k o l) = length l ≡ n

passed_long : (d : SdoClientConnection) (n : ℕ) (w : Walking) → Long n w → Long (suc n) (passed d w)
passed_long d n (refused r) h = tt
passed_long d n (through l) h = ap suc h
passed_long d n (stopped k o l) h = ap suc h

walk_long : (t : Turn) (now : Now) (l : List SdoClientConnection) → Long (length l) (walk_list t now l)
walk_long t now [] = refl
walk_long t now (c ∷ l) = step (at_turn t c now) (walk_long t now l)
  where
    stop : (s : Option Outgoing) (d : SdoClientConnection) → Long (length l) (walk_list t now l)
        → Long (suc (length l)) (stop_or s d l (walk_list t now l))
    stop (Some o) d h = refl
    stop None d h = passed_long d (length l) (walk_list t now l) h

    step : (a : Result Step Refusal) → Long (length l) (walk_list t now l) → Long (suc (length l)) (walk_step a l (walk_list t now l))
    step (Err r) h = tt
    step (Ok s) h = stop s.sends s.connection h

-- the held part of the array that a walk leaves is the walk's list
live_after : (m : SdoClientManager) (l : List SdoClientConnection) → length l ≡ length (live m)
    → take m.count (l ++ drop m.count m.connections) ≡ l
live_after m l h = go (leb m.count (length m.connections)) refl
  where
    n : length l ≡ min m.count (length m.connections)
    n = h ∙ length-take m.count m.connections

    go : (b : Bool) → leb m.count (length m.connections) ≡ b → take m.count (l ++ drop m.count m.connections) ≡ l
    go true e = let k = leb-true m.count (length m.connections) e in take_at l _ m.count (omega (arith, n))
    go false e =
        let k = leb-false m.count (length m.connections) e in
        rw (drop_of_length-le m.connections {i = m.count} (omega arith), append-nil l) (take_all m.count l (omega (arith, n)))

-- each answer of the walk, by the walk that gave it
module _ (m : SdoClientManager) (t : Turn) (now : Now) (store output : Bytes) (w : Walk) (e : w ≡ walk_of m t now) where
  abbrev Comes : Done → Bytes → After → Type 0
  Comes d out a = record { done = d; store = store; output = out } ≡ a

  abbrev so : After
  so = walked_to (walk_list t now (live m)) m store output

  differs : {a b : Walked} → w.walked ≡ a → (x : Walking) → w ≡ walk_answer m x → (walk_answer m x).walked ≡ b → a ≡ b
  differs f x g h = sym f ∙ ap (λ (v : Walk). v.walked) g ∙ h

  pub turn_refused : (r : Refusal) → w.walked ≡ Walked.Refused r → Comes (refusing m r) output so
  unfolding walk_of
  turn_refused r f = go (walk_list t now (live m)) e
    where
      go : (x : Walking) → w ≡ walk_answer m x → Comes (refusing m r) output (walked_to x m store output)
      go (refused q) g = let same : r ≡ q = cc (differs f (refused q) g refl) in rw same
      go (through l) g = let z : ◌≡◌ {A = ℕ} 0 1 = cc (differs f (through l) g refl) in absurd (omega arith)
      go (stopped k o l) g = let z : ◌≡◌ {A = ℕ} 0 1 = cc (differs f (stopped k o l) g refl) in absurd (omega arith)

  pub turn_through : w.walked ≡ Walked.Through
      → Comes (leaving (live w.manager) w.manager.next_transaction_id Answer.Nothing) output so
  unfolding walk_of
  turn_through f = go (walk_list t now (live m)) e (walk_long t now (live m))
    where
      go : (x : Walking) → w ≡ walk_answer m x → Long (length (live m)) x
          → Comes (leaving (live w.manager) w.manager.next_transaction_id Answer.Nothing) output (walked_to x m store output)
      go (refused q) g h = let z : ◌≡◌ {A = ℕ} 0 1 = cc (differs f (refused q) g refl) in absurd (omega arith)
      go (through l) g h = rw (g, live_after m l h)
      go (stopped k o l) g h = let z : ◌≡◌ {A = ℕ} 0 1 = cc (differs f (stopped k o l) g refl) in absurd (omega arith)

  pub turn_stopped : (k : ℕ) (o : Outgoing) (c : SdoClientConnection) (after : Bytes) → w.walked ≡ Walked.Stopped k o
      → c ≡ held_at w.manager k → after ≡ buffer_after (payload_of (room_in store c) o) output
      → Comes (leaving (live w.manager) w.manager.next_transaction_id (sent_to c o)) after so
  unfolding walk_of
  turn_stopped k o c after f ec ea = go (walk_list t now (live m)) e (walk_long t now (live m))
    where
      go : (x : Walking) → w ≡ walk_answer m x → Long (length (live m)) x
          → Comes (leaving (live w.manager) w.manager.next_transaction_id (sent_to c o)) after (walked_to x m store output)
      go (refused q) g h = let z : ◌≡◌ {A = ℕ} 0 1 = cc (differs f (refused q) g refl) in absurd (omega arith)
      go (through l) g h = let z : ◌≡◌ {A = ℕ} 0 1 = cc (differs f (through l) g refl) in absurd (omega arith)
      go (stopped j p l) g h =
          let ej : k ≡ j = cc (differs f (stopped j p l) g refl) in
          let ep : o ≡ p = cc (differs f (stopped j p l) g refl) in
          let el : live w.manager ≡ l = rw (g, live_after m l h) in
          let en : w.manager.next_transaction_id ≡ m.next_transaction_id = rw g in
          let es : c ≡ get_or l j blank = ec ∙ rw (el, ej) in
          rw (ea, el, en, es, ep)
