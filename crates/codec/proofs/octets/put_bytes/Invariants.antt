-- `codec::octets::put_bytes`: the first bytes of src are pasted into the buffer, and the rest of it is as it was.
use mathlib.Core.Path.{◌≡◌}
use lib.Seq.{paste}
use Rattle.codec.proofs.octets.put_bytes.Given as goal

abbrev pub invariant-loop-i : goal.invariant-loop-i
invariant-loop-i l = l.buffer ≡ paste l.initial.buffer l.at l.src l.i
