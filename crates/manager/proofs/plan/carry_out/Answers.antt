-- `manager::plan::carry_out` meets its contract: each arm is one plan.
use Rattle.manager.specs.Calls.{called}
use Rattle.laws.proofs.Clauses.{value_output}
use Rattle.manager.proofs.plan.carry_out.Goals as goal

pub returns-in-Walk : goal.returns-in-Walk
unfolding called
returns-in-Walk c =
    value_output (rw c.in-Walk.is (c.take_turn.ensures.value, c.take_turn.ensures.output_after))
