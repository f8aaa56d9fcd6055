-- A change of a neat manager done in place is that change.
use Rattle.std.specs.Prelude.{All, None}
use Prim.Native.Nat.{ℕ, ◌-◌, ◌<◌}
use native.Mathlib.Omega.{arith}
use mathlib.Core.Path.{◌≡◌, refl, sym, ap, ◌∙◌}
use mathlib.Core.Bool.{Bool, true, false}
use mathlib.Core.List.{List, [], ◌∷◌}
use lib.Dec.{ltb}
use lib.ListN.{length, replicate, set, length-set}
use lib.Seq.{set-append_left}
use borrow.Author.Tests.{ltb-true, ltb-false}
use Rattle.std.proofs.lemmas.List.Elements.{All-head, All-tail, All-set}
use Rattle.std.proofs.lemmas.List.{set_past}
use Rattle.laws.specs.Pick.{pick}
use Rattle.codec.specs.Bytes.{Bytes}
use Rattle.laws.proofs.Choices.{either}
use Rattle.con_rec.specs.Record.{end_of}
use Rattle.man_table.specs.Sweep.{ends_in, running, unless_end, with_end}
use Rattle.man_table.specs.Table.{blank, live, padded, table_of}
use Rattle.manager.specs.Change.{answering, change_done, entered, entered_at, leaving, number_after}
use Rattle.manager.proofs.WalkCalls.{live_table}
use Rattle.theorems.specs.InPlace.{InPlace, Neat, Runs, Stays, in_place, put_in}
use Rattle.theorems.specs.Sound.{Sound}
use Rattle.theorems.specs.Types.{Answer, Change, Done, Entry, SdoClientConnection, SdoClientManager}

runs_on : (c : SdoClientConnection) → Runs c → end_of c ≡ None
runs_on c h = rw h

-- where none has ended nothing is removed and nothing reported
kept : (l : List SdoClientConnection) → All Runs l → running l ≡ l
kept [] h = refl
kept (c ∷ l) h = ap (λ x. unless_end x c (running l)) (runs_on c (All-head Runs c l h)) ∙ ap (λ x. c ∷ x) (kept l (All-tail Runs c l h))

unreported : (l : List SdoClientConnection) → All Runs l → ends_in l ≡ []
unreported [] h = refl
unreported (c ∷ l) h = ap (λ x. with_end x (ends_in l)) (runs_on c (All-head Runs c l h)) ∙ unreported l (All-tail Runs c l h)

leaves : (l : List SdoClientConnection) (number : ℕ) (a : Answer) → All Runs l → leaving l number a ≡ answering (table_of l number) a
leaves l number a h = rw (kept l h, unreported l h)

module _ (m : SdoClientManager) (s : Neat m) where
  array : m.connections ≡ padded (live m)
  array = ap (λ (x : SdoClientManager). x.connections) s.is

  many : m.count ≡ length (live m)
  many = ap (λ (x : SdoClientManager). x.count) s.is

  -- the list that a change leaves in the held places, in place
  abbrev listed : Entry → List SdoClientConnection
  listed Entry.Nowhere = live m
  listed (Entry.At k d) = set (live m) k d
  listed (Entry.New d) = live m

  stood : (number : ℕ) → table_of (live m) number ≡ record { connections = m.connections; count = m.count; next_transaction_id = number }
  stood number = λ i. record { connections = sym array i; count = sym many i; next_transaction_id = number }

  there : (e : Entry) (number : ℕ) → Stays e
      → table_of (listed e) number ≡ record { connections = put_in e m.count m.connections; count = m.count; next_transaction_id = number }
  unfolding pick
  there Entry.Nowhere number h = stood number
  there (Entry.New d) number h = absurd h
  there (Entry.At k d) number h = go (ltb k m.count) refl
    where
      go : (b : Bool) → ltb k m.count ≡ b
          → table_of (set (live m) k d) number
          ≡ record { connections = pick b (set m.connections k d) m.connections; count = m.count; next_transaction_id = number }
      go true e =
          let l : k < length (live m) = omega (arith, ltb-true k m.count e, many) in
          let a : padded (set (live m) k d) ≡ set m.connections k d =
          sym (ap (λ x. set x k d) array ∙ rw length-set (set-append_left (live m) (replicate (8 - length (live m)) blank) k d l)) in
          let n : length (set (live m) k d) ≡ m.count = length-set (live m) k d ∙ sym many in
          λ i. record { connections = a i; count = n i; next_transaction_id = number }
      go false e =
          rw (set_past (live m) k d (omega (arith, ltb-false k m.count e, many))) (stood number)

  swept_so : table_of (running (live m)) m.next_transaction_id ≡ m
  swept_so = ap (λ (l : List SdoClientConnection). table_of l m.next_transaction_id) (kept (live m) s.each) ∙ sym s.is

  -- the manager that a change enters its connection into: all of it run on, and it is what stands there
  runs : (e : Entry) → Stays e → All Runs (listed e)
  runs Entry.Nowhere h = s.each
  runs (Entry.At k d) h = All-set Runs (live m) k d h s.each
  runs (Entry.New d) h = absurd h

  enters : (e : Entry) (number : ℕ) → Stays e
      → (live (entered_at m e number) ≡ listed e) × (entered_at m e number ≡ table_of (listed e) number)
  unfolding entered_at
  enters Entry.Nowhere number h = (refl, sym (stood number))
  enters (Entry.At k d) number h = (live_table (set (live m) k d) number, refl)
  enters (Entry.New d) number h = absurd h

  pub placed : (c : Change) → Stays c.entry → change_done m c ≡ answering (in_place m c) c.answer
  unfolding change_done
  placed c h =
      let number : ℕ = number_after c m.next_transaction_id in
      let x = enters c.entry number h in
      let n : (entered m c).next_transaction_id ≡ number = ap (λ (k : SdoClientManager). k.next_transaction_id) x.1 in
      let stands : entered m c ≡ in_place m c = x.1 ∙ there c.entry number h in
      either (λ (d : Done). d ≡ answering (in_place m c) c.answer) c.sweeps _ _
      (rw (n, x.0)
      (leaves (listed c.entry) number c.answer (runs c.entry h)
      ∙ ap (λ (k : SdoClientManager). answering k c.answer) (there c.entry number h)))
      (ap (λ (k : SdoClientManager). answering k c.answer) stands)

sound_neat : (m : SdoClientManager) (store : Bytes) → Sound m store → Neat m
sound_neat m store s = record { is = s.is; each = λ k d h. (s.each k d h).runs }

pub in_place_lem : InPlace
unfolding InPlace
in_place_lem = (sound_neat, swept_so, placed)
