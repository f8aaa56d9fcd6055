-- What a record is read as, and what one that is read holds.
use Rattle.std.specs.Prelude.{Option, Some, None, Result, Ok, Err}
use Prim.Native.Nat.{ℕ, ◌≤◌, ◌<◌}
use native.Mathlib.Omega.{arith}
use mathlib.Core.Path.{◌≡◌, refl, sym, ap, ◌∙◌}
use mathlib.Core.Bool.{Bool, true, false}
use lib.Dec.{ltb}
use lib.ListN.{length, get_or}
use borrow.Author.Tests.{ltb-false}
use Rattle.laws.specs.Pick.{pick}
use Rattle.laws.proofs.Picks.{below, not_below}
use Rattle.codec.specs.Bytes.{Bytes}
use Rattle.replay_record.specs.Record.{numbered, operation_of, own_data, record_at, record_named, record_read}
use Rattle.replay_record.specs.Types.{Operation, Record, Refusal}
use Rattle.codec.proofs.CutParts.{part_short}

module _ (b : Bytes) where
  pub short_record : length b < 32 → Err Refusal.ShortRecord ≡ record_read b
  unfolding record_read
  short_record h = below _ _ _ _ h refl

  -- by what its operation is read as
  module _ (whole : 32 ≤ length b) {n : Result Operation Refusal} (e : n ≡ numbered (operation_of (get_or b 0 0))) where
    pub numbered_record : {o : Operation} {a : Result Record Refusal} → n ≡ Ok o → a ≡ record_named b (Some o) → a ≡ record_read b
    unfolding record_read
    numbered_record f g = not_below _ _ _ _ whole (g ∙ ap (record_named b) (sym (known _ (sym e ∙ f))))
      where
        known : (x : Option Operation) {o : Operation} → numbered x ≡ Ok o → x ≡ Some o
        known None h = let z : ◌≡◌ {A = ℕ} 0 1 = cc in absurd (omega arith)
        known (Some x) h = cc

    pub no_number : {why : Refusal} → n ≡ Err why → Err why ≡ record_read b
    unfolding record_read
    no_number f = not_below _ _ _ _ whole (unknown _ (sym e ∙ f))
      where
        unknown : (x : Option Operation) {why : Refusal} → numbered x ≡ Err why → Err why ≡ record_named b x
        unknown None h = cc
        unknown (Some x) h = let z : ◌≡◌ {A = ℕ} 0 1 = cc in absurd (omega arith)

  pub bad_length : (o : Operation) → 16 < get_or b 5 0 → Err Refusal.BadRecord ≡ record_named b (Some o)
  bad_length o h = below _ _ _ _ h refl

  pub good_length : (o : Operation) {r : Record} → get_or b 5 0 ≤ 16 → r ≡ record_at b o
      → Ok r ≡ record_named b (Some o)
  good_length o h e = not_below _ _ _ _ h (ap Ok e)

-- the data of a record that is read are at most 16 bytes
module _ (b : Bytes) {r : Record} where
  tested : (t : Bool) (o : Operation) → ltb 16 (get_or b 5 0) ≡ t
      → Ok r ≡ pick t (Err Refusal.BadRecord) (Ok (record_at b o)) → r.length ≤ 16
  unfolding pick
  tested true o e f = let z : ◌≡◌ {A = ℕ} 0 1 = cc in absurd (omega arith)
  tested false o e f = let g : r ≡ record_at b o = cc in rw g (ltb-false 16 (get_or b 5 0) e)

  named : (o : Option Operation) → Ok r ≡ record_named b o → r.length ≤ 16
  named None f = let z : ◌≡◌ {A = ℕ} 0 1 = cc in absurd (omega arith)
  named (Some o) f = tested (ltb 16 (get_or b 5 0)) o refl f

  read : (t : Bool) → Ok r ≡ pick t (Err Refusal.ShortRecord) (record_named b (operation_of (get_or b 0 0)))
      → r.length ≤ 16
  unfolding pick
  read true f = let z : ◌≡◌ {A = ℕ} 0 1 = cc in absurd (omega arith)
  read false f = named (operation_of (get_or b 0 0)) f

  record_short : Ok r ≡ record_read b → r.length ≤ 16
  unfolding record_read
  record_short f = read (ltb (length b) 32) f

  pub own_short : {own : Bytes} → Ok r ≡ record_read b → own ≡ own_data b r → length own ≤ 16
  own_short f g = let l = record_short f in let k = part_short b 16 r.length in rw g (omega arith)
