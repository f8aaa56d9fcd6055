-- Gathering: refused past 4,096 bytes, and else put behind what is already.
use Prim.Native.Nat.{ℕ, ◌+◌, ◌≤◌, ◌<◌}
use mathlib.Core.Path.{◌≡◌, refl, ◌∙◌}
use lib.ListN.{length}
use Rattle.laws.proofs.Picks.{below, not_below}
use Rattle.codec.specs.Bytes.{Bytes}
use Rattle.codec.specs.Writing.{put_buffer}
use Rattle.codec.proofs.WrittenBytes.{put_fits}
use Rattle.replay_record.specs.Gather.{gathered_with, more_gathered, most_gathered}
use Rattle.replay_record.specs.Types.{Answer, Gathered, Refusal}

-- a gather past 4,096 bytes, and any other
module _ (already : ℕ) (own gather : Bytes) where
  pub gather_refused : most_gathered < already + length own
      → (◌≡◌ {A = Gathered} (record { answer = Answer.Refused Refusal.NoRoom; gathered = already }) (gathered_with already (length own)))
      × (gather ≡ more_gathered gather already own)
  unfolding gathered_with more_gathered
  gather_refused h = (below _ _ _ _ h refl, below _ _ _ _ h refl)

  pub gather_done : {after : Bytes} → already + length own ≤ most_gathered → already + length own ≤ length gather
      → after ≡ put_buffer gather already own
      → (◌≡◌ {A = Gathered} (record { answer = Answer.Nothing; gathered = already + length own }) (gathered_with already (length own)))
      × (after ≡ more_gathered gather already own)
  unfolding gathered_with more_gathered
  gather_done h k f = (not_below _ _ _ _ h refl, not_below _ _ _ _ h (f ∙ put_fits gather own already k))
