-- `replay_line::text::Text::hex`. The loop's invariant: what is put and what is left of the bytes are the text.
use Rattle.replay_line.proofs.SpelledDigits.{Hexed}
use Rattle.replay_line.proofs.text.Text.hex.Given as goal

abbrev pub invariant-loop-b : goal.invariant-loop-b
invariant-loop-b l = Hexed l.initial.self l.bytes l.self l.b-index
