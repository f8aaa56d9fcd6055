-- `manager::reply::handle_response` meets its contract: a reply is its change, done.
use mathlib.Core.Path.{refl, ◌∙◌}
use Rattle.manager.specs.Calls.{called}
use Rattle.laws.proofs.Clauses.{value_store}
use Rattle.manager.proofs.reply.handle_response.Goals as goal

pub returns : goal.returns
unfolding called
returns c =
    value_store (c.apply_change.ensures ∙ rw c.reply_change.ensures.value refl, c.reply_change.ensures.store_after)
