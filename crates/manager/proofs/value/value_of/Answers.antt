-- `manager::value::value_of` meets its contract: a job that runs, one that ended Complete, and one that ended otherwise.
use mathlib.Core.Path.{refl}
use Rattle.laws.proofs.Answers.{told}
use Rattle.laws.proofs.Picks.{holds, fails}
use Rattle.manager.specs.Value.{value_by}
use Rattle.manager.proofs.value.value_of.Goals as goal

pub returns-then-is_complete : goal.returns-then-is_complete
returns-then-is_complete c =
    let a = c.args in
    told (λ x. value_by x a.c) refl c.in-Some.is
    (holds _ _ c.is_complete.ensures c.if-is_complete.true c.value_for.ensures)

pub returns : goal.returns
returns c =
    let a = c.args in
    told (λ x. value_by x a.c) refl c.in-Some.is
    (fails _ _ c.is_complete.ensures c.if-is_complete.false refl)
