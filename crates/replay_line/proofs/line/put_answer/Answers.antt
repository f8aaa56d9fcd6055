-- `replay_line::line::put_answer` meets its contract: three texts, each with a space behind it.
use Rattle.replay_line.proofs.PutText.{puts}
use Rattle.replay_line.specs.Line.{answer_text}
use Rattle.replay_line.proofs.line.put_answer.Goals as goal

pub returns : goal.returns
unfolding answer_text
returns c =
    puts (puts (puts c.put_refusal.ensures c.byte.ensures) (puts c.put_node.ensures c.byte-2.ensures)) (puts c.put_sent.ensures c.byte-3.ensures)
