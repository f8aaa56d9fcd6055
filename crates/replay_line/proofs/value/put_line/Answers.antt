-- `replay_line::value::put_line` meets its contract: five texts, one behind the other.
use Rattle.replay_line.proofs.PutText.{puts}
use Rattle.replay_line.specs.Value.{value_line}
use Rattle.replay_line.proofs.value.put_line.Goals as goal

pub returns : goal.returns
unfolding value_line
returns c = puts (puts (puts c.put_place.ensures (puts c.put_object.ensures c.byte.ensures)) c.put_data.ensures) c.byte-2.ensures
