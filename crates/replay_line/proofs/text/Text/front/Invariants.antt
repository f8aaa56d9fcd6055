-- `replay_line::text::Text::front`. The loop's invariant: what is put and what is left from the next place down are the digits before the last.
use Rattle.replay_line.proofs.SpelledDigits.{Spelled}
use Rattle.replay_line.proofs.text.Text.front.Given as goal

abbrev pub invariant-loop-i : goal.invariant-loop-i
invariant-loop-i l = Spelled l.initial.self l.n l.places l.self l.i
