-- `replay_line::line::put_sent` meets its contract: the header and behind it the command with its payload, or `-`.
use Rattle.replay_line.proofs.PutText.{puts}
use Rattle.replay_line.proofs.line.put_sent.Goals as goal

pub returns-in-Sent : goal.returns-in-Sent
returns-in-Sent c = rw c.in-Sent.is (puts c.put_sequence.ensures (rw c.payload_of.ensures.result_value at c.put_command.ensures))
