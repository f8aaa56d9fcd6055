-- `manager::change_start::started` meets its contract: each answer of the connection is one case of `started_as`.
use mathlib.Core.Path.{refl, ◌∙◌}
use Rattle.laws.proofs.Answers.{told}
use Rattle.laws.proofs.Picks.{fails, holds}
use Rattle.manager.specs.Calls.{started_as}
use Rattle.manager.proofs.change_start.started.Goals as goal

pub returns-then-takes_number : goal.returns-then-takes_number
returns-then-takes_number c =
    let a = c.args in
    told (λ x. started_as x a.entry) refl c.in-Err.is
    (holds _ _ c.takes_number.ensures c.if-takes_number.true (c.taking-then-takes_number.ensures ∙ rw c.idle_of.ensures))

pub returns-else-takes_number : goal.returns-else-takes_number
returns-else-takes_number c =
    let a = c.args in
    told (λ x. started_as x a.entry) refl c.in-Err.is
    (fails _ _ c.takes_number.ensures c.if-takes_number.false c.same.ensures)
