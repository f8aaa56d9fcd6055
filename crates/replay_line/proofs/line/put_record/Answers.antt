-- `replay_line::line::put_record` meets its contract: two texts, each with a space behind it.
use Rattle.replay_line.proofs.PutText.{puts}
use Rattle.replay_line.specs.Line.{record_text}
use Rattle.replay_line.proofs.line.put_record.Goals as goal

pub returns : goal.returns
unfolding record_text
returns c = puts (puts c.decimal.ensures c.byte.ensures) (puts c.put_operation.ensures c.byte-2.ensures)
