-- `replay_line::text::Text::hex` meets its contract.
use native.Mathlib.Omega.{arith}
use Rattle.replay_line.proofs.SpelledDigits.{hexed_all, hexed_more, hexed_none}
use Rattle.replay_line.proofs.text.Text.hex.Goals as goal

pub loop-b-init : goal.loop-b-init
loop-b-init c = hexed_none _ _ (omega arith)

pub loop-b-preserved : goal.loop-b-preserved
loop-b-preserved c =
    hexed_more c.loop-b.invariant (omega arith) c.hex_digit.ensures c.hex_digit-in-loop-b.ensures c.byte.ensures c.byte-in-loop-b.ensures

pub returns : goal.returns
returns c = hexed_all c.loop-b.invariant (omega arith)
