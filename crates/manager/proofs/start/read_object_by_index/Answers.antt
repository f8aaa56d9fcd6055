-- `manager::start::read_object_by_index` meets its contract: a start is its change, done.
use mathlib.Core.Path.{refl, ◌∙◌}
use Rattle.manager.specs.Calls.{called}
use Rattle.manager.proofs.start.read_object_by_index.Goals as goal

pub returns : goal.returns
unfolding called
returns c = c.apply_change.ensures ∙ rw c.read_change.ensures refl
