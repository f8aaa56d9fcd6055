-- `manager::start::start_configuration_download` meets its contract: a start is its change, done.
use mathlib.Core.Path.{refl, ◌∙◌}
use Rattle.manager.specs.Calls.{called}
use Rattle.laws.proofs.Clauses.{value_store}
use Rattle.manager.proofs.start.start_configuration_download.Goals as goal

pub returns : goal.returns
unfolding called
returns c =
    value_store (c.apply_change.ensures ∙ rw c.load_change.ensures.value refl, c.load_change.ensures.store_after)
