-- `manager::plan::plan_turn` meets its contract: 9, 1, and then the first connection that does not rest.
use mathlib.Core.Path.{◌∙◌}
use Rattle.laws.proofs.Answers.{told}
use Rattle.laws.proofs.Picks.{below, is, is_not, not_below}
use Rattle.manager.specs.Plan.{plan_at, turn_plan}
use Rattle.manager.proofs.Parts.{plan_parts}
use Rattle.manager.proofs.PlanCalls.{step_whole}
use Rattle.man_table.proofs.Places.{due_held}
use Rattle.man_table.specs.Walk.{at_turn}
use Rattle.laws.proofs.Clauses.{value_output}
use Rattle.manager.proofs.plan.plan_turn.Goals as goal

pub returns-then-output-lt-OUTPUT_SIZE : goal.returns-then-output-lt-OUTPUT_SIZE
unfolding turn_plan
returns-then-output-lt-OUTPUT_SIZE c =
    value_output (plan_parts c.args.store.now
    (is _ _ _ _ (rw c.in-Some.is at c.as_array.ensures.cases).long (below _ _ _ _ c.if-output-lt-OUTPUT_SIZE.true (rw c.same-then-output-lt-OUTPUT_SIZE.ensures))))

pub returns-in-None : goal.returns-in-None
unfolding turn_plan
returns-in-None c =
    let a = c.args in
    value_output (plan_parts a.store.now
    (is _ _ _ _ (rw c.in-Some.is at c.as_array.ensures.cases).long
    (not_below _ _ _ _ c.if-output-lt-OUTPUT_SIZE.false
    (told (λ x. plan_at x a.t a.m a.n a.store.now a.output.now) c.due.ensures c.in-None.is
    (rw c.putting.ensures)))))

pub returns-in-Some-due : goal.returns-in-Some-due
unfolding turn_plan
returns-in-Some-due c =
    let a = c.args in
    let e = c.due.ensures in
    let f = c.in-Some-due.is in
    let d = c.connection_at.ensures ∙ due_held a.m _ _ a.t a.n e f in
    value_output (plan_parts a.store.now
    (is _ _ _ _ (rw c.in-Some.is at c.as_array.ensures.cases).long
    (not_below _ _ _ _ c.if-output-lt-OUTPUT_SIZE.false
    (told (λ x. plan_at x a.t a.m a.n a.store.now a.output.now) e f (step_whole (at_turn a.t c.connection_at.result a.n) a.t _ a.n a.store.now a.output.now (rw (rw c.in-Some.is at c.as_array.ensures.cases).same at c.plan_step.ensures.value) (rw (rw c.in-Some.is at c.as_array.ensures.cases).same at c.plan_step.ensures.output_after) ∙ rw d)))))

pub returns-in_default : goal.returns-in_default
unfolding turn_plan
returns-in_default c =
    value_output (plan_parts c.args.store.now (is_not _ _ _ _ (rw c.in_default.is at c.as_array.ensures.cases) (rw c.same.ensures)))
