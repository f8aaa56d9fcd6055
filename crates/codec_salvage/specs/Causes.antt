-- Each refusal of a repair, given exactly when document 02's CR 3 says, in the order of the checks: 5 under four bytes, then 7 over 4,096. Then 1, where the
-- repaired DCF does not fit the output that is lent. A refused repair leaves the output as it was.
use Rattle.std.specs.Prelude.{◌<◌, ◌≡◌, List, [], ◌∷◌, length, Err}
use Rattle.laws.specs.Checks.{Check, Exactly, check}
use Rattle.codec.specs.Bytes.{Bytes}
use Rattle.codec.specs.declared.refusal.Refusal.{Refusal}
use Rattle.codec_salvage.specs.Salvage.{most_salvaged, output_after, repaired, salvaged}

abbrev pub salvage_checks : Bytes → Bytes → List (Check Refusal)
salvage_checks dcf output =
    check Refusal.DcfTooShort (length dcf < 4)
    ∷ check Refusal.NoRoom (most_salvaged < length dcf)
    ∷ check Refusal.BufferTooShort (length output < length (repaired dcf))
    ∷ []

pub record SalvageRefuses (dcf output : Bytes) : Type 0 where
  pub refuses : Exactly Err (salvage_checks dcf output) (salvaged dcf output)
  pub leaves : (r : Refusal) → salvaged dcf output ≡ Err r → output_after dcf output ≡ output
