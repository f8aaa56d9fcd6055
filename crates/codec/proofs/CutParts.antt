-- Parts of bytes: the one at the start, and how long one is; and the most that a command's head has.
use Prim.Native.Nat.{ℕ, ◌+◌, ◌≤◌}
use native.Mathlib.Omega.{arith}
use mathlib.Core.Path.{◌≡◌, sym}
use mathlib.Core.Bool.{Bool, true, false}
use mathlib.Core.List.{[], ◌++◌}
use lib.Dec.{leb}
use lib.ListN.{length, take, drop, length-append, length-take}
use lib.Seq.{take_at}
use Rattle.laws.specs.Pick.{pick}
use Rattle.laws.proofs.Picks.{within}
use Rattle.codec.specs.Bytes.{Bytes, part_at}
use Rattle.codec.specs.Command.{head_length}
use Rattle.codec.specs.declared.command.Segmentation.{Segmentation}

-- the part at the start
pub part_front : (bytes rest : Bytes) (n : ℕ) → n ≡ length bytes → part_at (bytes ++ rest) 0 n ≡ bytes
unfolding part_at
part_front bytes rest n e =
    let l : 0 + n ≤ length (bytes ++ rest) = rw length-append (omega arith) in
    sym (within _ _ _ _ l (sym (take_at bytes rest n (sym e))))

-- a part is as long as was asked for, or empty
pub part_short : (b : Bytes) (start len : ℕ) → length (part_at b start len) ≤ len
unfolding part_at pick
part_short b start len = picked (leb (start + len) (length b))
  where
    picked : (t : Bool) → length (pick t (take len (drop start b)) []) ≤ len
    picked true = rw length-take (omega arith)
    picked false = omega arith

pub head_short : (s : Segmentation) → head_length s ≤ 12
head_short Segmentation.Expedited = omega arith
head_short Segmentation.Initiate = omega arith
head_short Segmentation.Segment = omega arith
head_short Segmentation.Complete = omega arith
