-- `manager::change::number_after` meets its contract: a start takes the next number.
use mathlib.Core.Path.{refl}
use Rattle.laws.proofs.Picks.{fails, holds}
use Rattle.manager.specs.Change.{number_after}
use Rattle.manager.proofs.change.number_after.Goals as goal

pub returns-then-change : goal.returns-then-change
unfolding number_after
returns-then-change c = holds _ _ refl c.if-change.true c.next_transaction.ensures

pub returns : goal.returns
unfolding number_after
returns c = fails _ _ refl c.if-change.false refl
