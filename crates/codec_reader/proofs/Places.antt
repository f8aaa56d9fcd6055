-- Steps one after another: each from the place that the one before it left.
use Prim.Native.Nat.{ℕ, zero, suc, ◌+◌, ◌-◌, ◌≤◌}
use native.Mathlib.Nat.{add-zero}
use Rattle.std.proofs.Common.{add-one}
use native.Mathlib.Omega.{arith}
use mathlib.Core.Path.{◌≡◌, refl, sym, ap, ◌∙◌}
use Rattle.codec.specs.Bytes.{Bytes}
use Rattle.codec.specs.Dcf.{dcf_step}
use Rattle.codec.specs.declared.dcf.DcfCursor.{DcfCursor}
use Rattle.codec_reader.specs.Place.{entry_of, first_place, past, stepped_from, place_after, place_of}
use Rattle.codec_reader.specs.declared.Stepped.{Stepped}

-- a step more
pub one_more : (n : ℕ) (b : Bytes) (c : DcfCursor) → past (place_after n b c) (dcf_step b (place_after n b c)) ≡ place_after (suc n) b c
one_more zero b c = refl
one_more (suc n) b c = one_more n b (past c (dcf_step b c))

-- the step after that to the n-th entry is that to the next one
pub goes_on : (b : Bytes) (n : ℕ) (step next : Stepped) → step ≡ entry_of b n → next ≡ stepped_from b step.place → next ≡ entry_of b (n + 1)
goes_on b n step next e f = f ∙ rw (e, one_more n b (first_place b), add-one)

-- where no entry stands, more steps lead nowhere else
still : (b : Bytes) (i k : ℕ) → past (place_of b i) (dcf_step b (place_of b i)) ≡ place_of b i → place_of b (i + k) ≡ place_of b i
still b i zero same = rw add-zero
still b i (suc k) same =
    let e : i + suc k ≡ suc (i + k) = omega arith in
    rw (e, ← one_more (i + k) b (first_place b), still b i k same) same

pub stays : (b : Bytes) (i n : ℕ) (step : Stepped) → step ≡ entry_of b i → ((c : DcfCursor) → past c step.found ≡ c) → i ≤ n
    → step ≡ entry_of b n
stays b i n step e same h =
    let f : i + (n - i) ≡ n = omega arith in
    let g : past (place_of b i) (dcf_step b (place_of b i)) ≡ place_of b i =
    ap (λ (t : Stepped). past (place_of b i) t.found) (sym e) ∙ same (place_of b i) in
    e ∙ ap (stepped_from b) (sym (still b i (n - i) g) ∙ rw f)
