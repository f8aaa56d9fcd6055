-- `replay_line::line::put_further`. The loop's invariant: what is put and what is left of the ends are their text.
use Rattle.replay_line.proofs.EndsText.{Ending}
use Rattle.replay_line.proofs.line.put_further.Given as goal

abbrev pub invariant-loop-e : goal.invariant-loop-e
invariant-loop-e l = Ending l.initial.text l.ends l.text l.e-index
