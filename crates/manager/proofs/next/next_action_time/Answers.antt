-- `manager::next::next_action_time` meets its contract: the least of the deadlines that there are.
use Rattle.std.proofs.Common.{◌∙◌, rules}
use borrow.Author.Tests.{tests}
use Rattle.std.proofs.lemmas.Iterator.{YieldsList-from_slice}
use Rattle.std.proofs.lemmas.Iterator.Consumers.{YieldsList-from_filter_map, min_from_yields_List}
use Rattle.man_table.specs.Table.{live}
use Rattle.manager.proofs.LeastDeadline.{least_of, unchanged}
use Rattle.manager.specs.Types.{SdoClientConnection}
use Rattle.manager.proofs.next.next_action_time.Goals as goal

pub returns : goal.returns
returns c =
    let l = live c.args.m in
    unchanged _
    ∙ min_from_yields_List _ _ c.min.ensures.ran
    (YieldsList-from_filter_map _ (λ (d : SdoClientConnection). d.waiting.deadline) (YieldsList-from_slice l cc) c.filter_map.ensures.closure (λ x r q k. search (rules, tests)))
    ∙ least_of l
