-- `replay_line::value::put_object` meets its contract: the index, a colon and the sub-index.
use Rattle.replay_line.proofs.PutText.{puts}
use Rattle.replay_line.specs.Value.{object_text}
use Rattle.replay_line.proofs.value.put_object.Goals as goal

pub returns : goal.returns
unfolding object_text
returns c = puts (puts c.hex.ensures c.byte.ensures) c.hex-2.ensures
