-- `replay_line::line::put_further` meets its contract.
use native.Mathlib.Omega.{arith}
use Rattle.replay_line.proofs.EndsText.{ending_more, ending_none}
use Rattle.replay_line.proofs.line.put_further.Goals as goal

pub loop-e-init : goal.loop-e-init
loop-e-init c = ending_none _ _ (omega arith)

pub loop-e-preserved : goal.loop-e-preserved
loop-e-preserved c = ending_more _ c.loop-e.invariant (omega arith) c.byte.ensures c.put_end.ensures
