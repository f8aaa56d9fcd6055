-- `replay_line::line::put_sequence` meets its contract: the four bytes of a header, in hex.
use native.Mathlib.Omega.{arith}
use mathlib.Core.Path.{refl, ap, ◌∙◌}
use Rattle.replay_line.proofs.LineBuffer.{filled}
use Rattle.replay_line.proofs.PutText.{put_as, put_within}
use Rattle.replay_line.specs.Text.{hex}
use Rattle.replay_line.proofs.line.put_sequence.Goals as goal

pub returns : goal.returns
returns c = put_as (ap hex (c.serialize.ensures.buffer_after ∙ filled _ _ refl)) (put_within 8 (omega arith) c.hex.ensures)
