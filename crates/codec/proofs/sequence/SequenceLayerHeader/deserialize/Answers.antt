-- `SequenceLayerHeader::deserialize` meets its contract: each return is one case of `sequence_read`.
use native.Mathlib.Omega.{arith}
use Rattle.codec.proofs.ReadCases.{sequence_short, sequence_whole}
use Rattle.codec.proofs.sequence.SequenceLayerHeader.deserialize.Goals as goal

pub returns-then-buffer-lt4 : goal.returns-then-buffer-lt4
returns-then-buffer-lt4 c = sequence_short _ (omega arith)

pub returns : goal.returns
returns c = sequence_whole _ _ (omega arith) (rw (c.from.ensures, c.from-2.ensures))
