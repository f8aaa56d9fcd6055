-- Flags and a data size, as numbers: what `bool` and `Option` of the library give is what the definitions say.
use Rattle.std.specs.Prelude.{Option, Some, None, ℕ, is_some, unwrap_or}
use Rattle.std.specs.Int.{from_bool}
use mathlib.Core.Bool.{Bool, true, false, not}
use mathlib.Core.Path.{◌≡◌, refl}
use lib.Dec.{eqb}
use Rattle.laws.specs.Pick.{pick}
use Rattle.ostelumiv.specs.Command.{flagged, number_of, size_number, size_present}

pub flagged_lem : (n : ℕ) → not (eqb n 0) ≡ flagged n
unfolding pick
flagged_lem n = go (eqb n 0)
  where
    go : (b : Bool) → not b ≡ pick b false true
    go true = refl
    go false = refl

pub flag_told : (b : Bool) → from_bool b ≡ number_of b
flag_told true = refl
flag_told false = refl

pub present_told : (d : Option ℕ) → from_bool (is_some d) ≡ size_present d
present_told (Some n) = refl
present_told None = refl

pub size_told : (d : Option ℕ) → unwrap_or d 0 ≡ size_number d
size_told (Some n) = refl
size_told None = refl
