-- `SequenceLayerHeader::serialize` meets its contract: four stores are `sequence_bytes` and the rest of the buffer.
use native.Mathlib.Omega.{arith}
use Rattle.laws.proofs.Clauses.{value_buffer}
use Rattle.codec.proofs.WrittenBytes.{write_refused, write_four}
use Rattle.codec.proofs.sequence.SequenceLayerHeader.serialize.Goals as goal

pub returns-then-buffer-lt4 : goal.returns-then-buffer-lt4
returns-then-buffer-lt4 c = value_buffer (write_refused _ _ (omega arith))

pub returns : goal.returns
returns c =
    value_buffer (write_four _ _ _ _ _ _ (omega arith) (rw (c.from.ensures.0, c.from-2.ensures.0)))
