-- What is told of a repair, by where a reader of the DCF stops.
use Rattle.std.specs.Prelude.{Option}
use Prim.Native.Nat.{ℕ, ◌+◌, ◌-◌, ◌≤◌}
use native.Mathlib.Omega.{arith}
use mathlib.Core.Path.{◌≡◌, sym, ap, ◌∙◌}
use lib.ListN.{length, get_or, length-append, length-drop}
use mir.Syntax.{w8}
use mir.Val.{Fits}
use Rattle.codec.specs.Bytes.{Bytes}
use Rattle.codec.specs.Dcf.{count_of, readable_entries}
use Rattle.codec_reader.specs.Place.{entry_of}
use Rattle.codec_reader.specs.declared.Stepped.{Stepped}
use Rattle.codec_salvage.specs.Repair.{Octets}
use Rattle.codec_salvage.specs.Salvage.{first_of, repaired, stored, told_of}
use Rattle.codec_salvage.proofs.Stop.{stop}
use Rattle.codec_salvage.proofs.Stored.{all_lie}

-- a slice's bytes, as its type has them
pub octets : (b : Bytes) → ((i : ℕ) → Fits w8 (get_or b i 0)) → Octets b
octets b h i = omega (arith, h i)

pub repaired_length : (b : Bytes) → length (repaired b) ≡ 4 + length (stored (readable_entries b))
unfolding repaired
repaired_length b = omega arith

-- the repaired DCF is not the longer one
pub no_longer : (b : Bytes) → Octets b → 4 ≤ length b → length (repaired b) ≤ length b
no_longer b o enough =
    let l = ap length (all_lie (count_of b) b 4 o) in omega (arith, repaired_length b, rw (length-append, length-drop 4 b) at l)

-- a reader that looked for the entry behind all that are counted
module _ (b : Bytes) (o : Octets b) {count : ℕ} (known : (4 ≤ length b) × (count ≡ count_of b)) (s : Stepped) (e : s ≡ entry_of b count) where
  stopped : s ≡ entry_of b (count_of b)
  stopped = e ∙ ap (entry_of b) known.1

  stops_at : s.place.at ≡ length (repaired b)
  stops_at = rw stopped ((stop b known.0).0 ∙ sym (repaired_length b))

  left_counted : s.place.left + length (readable_entries b) ≡ count_of b
  left_counted = rw stopped (stop b known.0).1

  pub at_within : s.place.at ≤ length b
  at_within = rw stops_at (no_longer b o known.0)

  pub left_within : s.place.left ≤ count
  left_within = omega (arith, left_counted, known.1)

  pub told : (first : Option ℕ) → first ≡ first_of (length b - s.place.at) s.place.at
      → record { old_count = count; new_count = count - s.place.left; length = s.place.at; dropped = length b - s.place.at; first_dropped = first } ≡ told_of b
  unfolding told_of
  told first f =
      let n : count - s.place.left ≡ length (readable_entries b) = omega (arith, left_counted, known.1) in
      rw (n, f, known.1, stops_at)
