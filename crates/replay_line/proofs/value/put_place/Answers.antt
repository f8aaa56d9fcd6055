-- `replay_line::value::put_place` meets its contract: two texts, each with a space behind it.
use Rattle.replay_line.proofs.PutText.{puts}
use Rattle.replay_line.specs.Value.{place_text}
use Rattle.replay_line.proofs.value.put_place.Goals as goal

pub returns : goal.returns
unfolding place_text
returns c = puts (puts c.decimal.ensures c.byte.ensures) (puts c.decimal-2.ensures c.byte-2.ensures)
