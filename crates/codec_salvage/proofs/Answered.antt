-- What a repair answers and leaves in the output: each refusal, and the repaired DCF, put in two parts.
use Rattle.std.specs.Prelude.{Result, Ok, Err}
use Prim.Native.Nat.{ℕ, ◌+◌, ◌-◌, ◌<◌, ◌≤◌}
use native.Mathlib.Omega.{arith}
use mathlib.Core.Path.{◌≡◌, refl, sym, ap, subst, ◌∙◌}
use mathlib.Core.List.{List}
use lib.ListN.{length, take, drop}
use lib.Seq.{take-append_seam}
use Rattle.laws.proofs.Picks.{below, beyond, not_below, within}
use Rattle.codec.specs.Bytes.{Bytes, le32, part_at, placed}
use Rattle.codec.specs.Dcf.{count_of, dcf_count, readable_entries}
use Rattle.codec.specs.Writing.{buffer_after, put_buffer}
use Rattle.codec.specs.declared.refusal.Refusal.{Refusal}
use Rattle.codec.proofs.Entries.{Counted, count_refused, counted}
use Rattle.codec.proofs.WrittenBytes.{placed_length, placed_more, put_fits, write_placed, write_refused}
use Rattle.codec_salvage.specs.Repair.{Octets}
use Rattle.codec_salvage.specs.Salvage.{most_salvaged, output_after, repaired, salvaged, stored, told_of}
use Rattle.codec_salvage.specs.declared.Salvaged.{Salvaged}
use Rattle.codec_salvage.proofs.Stored.{all_lie}
use Rattle.codec_salvage.proofs.Told.{no_longer, repaired_length}

-- what the count's answer says of the bytes
module _ (b : Bytes) {answer found : Result ℕ Refusal} (e : answer ≡ dcf_count b) (g : answer ≡ found) where
  pub count_says : Counted b found
  count_says = subst (Counted b) (sym e ∙ g) (counted b)

module _ (b output : Bytes) where
  -- an answer, and the output with it
  abbrev Answers : Result Salvaged Refusal → Bytes → Type 0
  Answers answer after = (answer ≡ salvaged b output) × (after ≡ output_after b output)

  pub short : {r : Refusal} {answer : Result ℕ Refusal} → answer ≡ dcf_count b → answer ≡ Err r → Answers (Err r) output
  unfolding salvaged output_after
  short e g =
      let h : length b < 4 = count_says b e g in
      (below _ _ _ _ h (ap Err (count_refused b (sym g ∙ e))), below _ _ _ _ h refl)

  pub long : 4 ≤ length b → most_salvaged < length b → Answers (Err Refusal.NoRoom) output
  unfolding salvaged output_after
  long h k = (not_below _ _ _ _ h (below _ _ _ _ k refl), not_below _ _ _ _ h (below _ _ _ _ k refl))

  module _ (enough : 4 ≤ length b) (most : length b ≤ most_salvaged) {told : Salvaged} (e : told ≡ told_of b) where
    new_count_is : told.new_count ≡ length (readable_entries b)
    unfolding told_of
    new_count_is = ap (λ (t : Salvaged). t.new_count) e

    length_is : told.length ≡ length (repaired b)
    unfolding told_of
    length_is = ap (λ (t : Salvaged). t.length) e

    pub no_fit : length output < told.length → Answers (Err Refusal.BufferTooShort) output
    unfolding salvaged output_after
    no_fit h =
        let k : length output < length (repaired b) = omega (arith, length_is) in (
          not_below _ _ _ _ enough (not_below _ _ _ _ most (beyond _ _ _ _ k refl)),
          not_below _ _ _ _ enough (not_below _ _ _ _ most (write_refused (repaired b) output k).1),
        )

    -- what `put_repaired` asks
    pub asked : told.length ≤ length output
        → (4 ≤ length b) × (told.new_count ≡ length (readable_entries b)) × (told.length ≡ length (repaired b)) × (told.length ≤ length output)
    asked fits = (enough, new_count_is, length_is, fits)

    pub done : (after : Bytes) → told.length ≤ length output → after ≡ buffer_after (repaired b) output → Answers (Ok told) after
    unfolding salvaged output_after
    done after h f =
        let k : length (repaired b) ≤ length output = omega (arith, length_is) in (
          not_below _ _ _ _ enough (not_below _ _ _ _ most (within _ _ _ _ k (ap Ok e))),
          not_below _ _ _ _ enough (not_below _ _ _ _ most f),
        )

-- the count put first, and behind it the entries as they stand in the old DCF
module _ (b output : Bytes) (o : Octets b) {count end : ℕ}
    (known : (4 ≤ length b) × (count ≡ length (readable_entries b)) × (end ≡ length (repaired b)) × (end ≤ length output)) where
  pub four_ahead : 4 ≤ end
  four_ahead = omega (arith, known.2, repaired_length b)

  abbrev es : List Bytes
  es = readable_entries b

  part_is : part_at b 4 (end - 4) ≡ stored es
  unfolding part_at
  part_is =
      let n : end - 4 ≡ length (stored es) = omega (arith, known.2, repaired_length b) in
      let inside : 4 + length (stored es) ≤ length b = omega (arith, repaired_length b, no_longer b o known.0) in
      let first : stored es ≡ take (length (stored es)) (drop 4 b) = rw (← all_lie (count_of b) b 4 o, take-append_seam) in
      rw n (sym (within _ _ _ _ inside first))

  pub put_both : {count-bytes entries first after : Bytes} → count-bytes ≡ le32 count → first ≡ put_buffer output 0 count-bytes
      → entries ≡ part_at b 4 (end - 4) → after ≡ put_buffer first 4 entries → after ≡ buffer_after (repaired b) output
  unfolding repaired
  put_both {first = first} {after = after} e f g h =
      let n = repaired_length b in
      let l : end ≡ 4 + length (stored es) = omega (arith, known.2) in
      let a : first ≡ placed output 0 (le32 (length es)) = f ∙ rw (e, known.1) (put_fits output (le32 (length es)) 0 (omega (arith, known.3))) in
      let k : length first ≡ length output = rw a (placed_length output 0 (le32 (length es)) (omega (arith, known.3))) in
      let d : after ≡ placed first 4 (stored es) = h ∙ rw (g, part_is) (put_fits first (stored es) 4 (omega (arith, known.3))) in
      (write_placed (repaired b) output (length (repaired b)) after refl (omega (arith, known.2, known.3)) (d ∙ rw a (placed_more output (le32 (length es)) (stored es) 4 refl))).1
