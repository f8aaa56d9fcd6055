-- A repair goes by its checks, so each refusal is given exactly when; and a refused one leaves the output, as the output goes by the same checks.
use Rattle.std.specs.Prelude.{Ok, Err}
use Prim.Native.Nat.{◌<◌}
use mathlib.Core.Path.{◌≡◌, refl}
use mathlib.Core.Bool.{Bool, true, false}
use mathlib.Core.List.{List, [], ◌∷◌, ◌++◌}
use lib.Dec.{leb, ltb}
use lib.ListN.{length, drop}
use Rattle.laws.proofs.Checks.{Goes, Otherwise, goes_exactly, ok_otherwise, refuses_below, refuses_beyond}
use Rattle.laws.specs.Checks.{Check, check}
use Rattle.laws.specs.Pick.{pick}
use Rattle.codec.specs.Bytes.{Bytes}
use Rattle.codec.specs.Writing.{buffer_after}
use Rattle.codec.specs.declared.refusal.Refusal.{Refusal}
use Rattle.codec_salvage.specs.Causes.{SalvageRefuses, salvage_checks}
use Rattle.codec_salvage.specs.Salvage.{most_salvaged, output_after, repaired, salvaged, told_of}

module _ (dcf output : Bytes) where
  -- the checks that are left after each
  abbrev fit_check : List (Check Refusal)
  fit_check = check Refusal.BufferTooShort (length output < length (repaired dcf)) ∷ []

  abbrev long_checks : List (Check Refusal)
  long_checks = check Refusal.NoRoom (most_salvaged < length dcf) ∷ fit_check

  goes : Goes (salvage_checks dcf output) (salvaged dcf output)
  unfolding salvaged
  goes =
      refuses_below Err (Otherwise Err) long_checks _ (length dcf) 4 (λ enough.
      refuses_below Err (Otherwise Err) fit_check _ most_salvaged (length dcf) (λ most.
      refuses_beyond Err (Otherwise Err) [] _ (length (repaired dcf)) (length output) (λ fits. ok_otherwise (told_of dcf))))

  stays : (r : Refusal) → salvaged dcf output ≡ Err r → output_after dcf output ≡ output
  unfolding salvaged output_after buffer_after pick
  stays r = go (ltb (length dcf) 4) (ltb most_salvaged (length dcf)) (leb (length (repaired dcf)) (length output))
    where
      go : (short long fits : Bool)
          → pick short (Err Refusal.DcfTooShort)
          (pick long (Err Refusal.NoRoom) (pick fits (Ok (told_of dcf)) (Err Refusal.BufferTooShort)))
          ≡ Err r
          → pick short output (pick long output (pick fits (repaired dcf ++ drop (length (repaired dcf)) output) output)) ≡ output
      go true long fits e = refl
      go false true fits e = refl
      go false false true e = absurd (ok_otherwise _ r e)
      go false false false e = refl

  pub salvage_refuses : SalvageRefuses dcf output
  salvage_refuses =
      record {
        refuses = goes_exactly (salvage_checks dcf output) _ goes;
        leaves = stays;
      }
