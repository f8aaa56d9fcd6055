-- `replay_line::line::put_end` meets its contract: five texts, one behind the other.
use Rattle.replay_line.specs.Line.{end_text}
use Rattle.replay_line.proofs.PutText.{puts}
use Rattle.replay_line.proofs.line.put_end.Goals as goal

pub returns : goal.returns
unfolding end_text
returns c =
    puts (puts c.decimal.ensures (puts (puts c.byte.ensures (rw c.letter.ensures at c.byte-2.ensures)) c.byte-3.ensures)) c.decimal-2.ensures
