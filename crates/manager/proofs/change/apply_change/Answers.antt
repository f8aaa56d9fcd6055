-- `manager::change::apply_change` meets its contract: the entry, and the sweep.
use mathlib.Core.Path.{refl, ◌∙◌}
use Rattle.laws.proofs.Picks.{fails, holds}
use Rattle.manager.specs.Change.{change_done}
use Rattle.manager.proofs.change.apply_change.Goals as goal

pub returns-then-change : goal.returns-then-change
unfolding change_done
returns-then-change c =
    holds _ _ refl c.if-change.true
    (c.leaving.ensures ∙ rw (c.entered-after.ensures, c.number_after-number.ensures))

pub returns : goal.returns
unfolding change_done
returns c =
    fails _ _ refl c.if-change.false
    (rw (c.entered.ensures, c.number_after-number.ensures, c.no_ends.ensures))
