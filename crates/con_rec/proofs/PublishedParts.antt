-- In published mode no Complete follows an Expedited, for every total: what goes Expedited is one part, and no later part is Expedited.
use Prim.Native.Nat.{ℕ, zero, suc, ◌-◌, ◌≤◌}
use native.Mathlib.Omega.{arith}
use mathlib.Core.Path.{◌≡◌}
use mathlib.Core.List.{◌∷◌}
use lib.Dec.{leb}
use borrow.Author.Tests.{leb-true}
use Rattle.laws.proofs.Choices.{decided, either}
use Rattle.con_rec.specs.Parts.{first_kind, goes_expedited, later_kind, limit, most, part_length}
use Rattle.con_rec.specs.PartsOf.{NoneFollows, Part, first_of, later_count, later_parts, parts_of}
use Rattle.con_rec.specs.Types.{Mode, Segmentation}

-- ---- kinds
-- what goes Expedited as a first part is at most the mode's limit
pub expedited_within : (mode : Mode) (n : ℕ) → first_kind mode n ≡ Segmentation.Expedited → n ≤ limit mode
expedited_within mode n =
    decided (λ (s : Segmentation). s ≡ Segmentation.Expedited → n ≤ limit mode) (goes_expedited mode n) _ _ (λ h e. leb-true _ _ h)
    (λ h e. cc)

-- a first part is no Complete, and a later one is not Expedited
pub first_not_complete : (mode : Mode) (n : ℕ) → first_kind mode n ≡ Segmentation.Complete → ⊥
first_not_complete mode n =
    either (λ (s : Segmentation). s ≡ Segmentation.Complete → ⊥) (goes_expedited mode n) _ _
    (λ e. cc) (λ e. cc)

pub later_not_expedited : (n : ℕ) → later_kind n ≡ Segmentation.Expedited → ⊥
later_not_expedited n =
    either (λ (s : Segmentation). s ≡ Segmentation.Expedited → ⊥) (leb n most) _ _
    (λ e. cc) (λ e. cc)

-- ---- parts
later_none : (k rest : ℕ) → NoneFollows (later_parts k rest)
later_none zero rest = tt
later_none (suc zero) rest = tt
later_none (suc (suc k)) rest =
    (λ e f. later_not_expedited rest e, later_none (suc k) (rest - part_length rest))

behind_first : (p : Part) (k rest : ℕ) → (p.kind ≡ Segmentation.Expedited → k ≡ 0) → NoneFollows (p ∷ later_parts k rest)
behind_first p zero rest h = tt
behind_first p (suc k) rest h = (λ e f. let z = h e in omega arith, later_none (suc k) rest)

pub none_follows : (total : ℕ) → NoneFollows (parts_of Mode.Published total)
none_follows total =
    behind_first (first_of Mode.Published total) (later_count (total - part_length total)) (total - part_length total)
    (λ e. let z = expedited_within Mode.Published total e in omega arith)
