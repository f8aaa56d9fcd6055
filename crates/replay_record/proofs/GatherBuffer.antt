-- What was gathered, and the data of the record that uses it, in one buffer.
use Prim.Native.Nat.{ℕ, ◌+◌, ◌≤◌}
use native.Mathlib.Omega.{arith}
use mathlib.Core.Path.{◌≡◌, ◌∙◌}
use mathlib.Core.List.{◌++◌}
use lib.ListN.{length, take, drop, length-append}
use lib.Seq.{length-take-le}
use Rattle.codec.specs.Bytes.{Bytes, part_at, placed}
use Rattle.codec.specs.Writing.{put_buffer}
use Rattle.codec.proofs.CutParts.{part_front}
use Rattle.codec.proofs.WrittenBytes.{put_fits}
use Rattle.replay_record.specs.Request.{used_bytes}

-- what was gathered, and a record's own data put behind it
part_used : (gather : Bytes) (already : ℕ) (own : Bytes) → already ≤ length gather
    → part_at (placed gather already own) 0 (already + length own) ≡ used_bytes gather already own
unfolding placed
part_used gather already own h =
    part_front (take already gather ++ own) (drop (already + length own) gather) (already + length own)
    (rw (length-append, length-take-le already gather h))

pub used_part : (gather : Bytes) (already : ℕ) (own : Bytes) {after part : Bytes} → already + length own ≤ length gather
    → after ≡ put_buffer gather already own → part ≡ part_at after 0 (already + length own) → part ≡ used_bytes gather already own
used_part gather already own h e p =
    p ∙ rw (e, put_fits gather own already h) (part_used gather already own (omega arith))
