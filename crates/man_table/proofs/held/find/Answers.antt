-- `man_table::held::find` meets its contract: the first whose node it is.
use Rattle.std.proofs.Common.{◌∙◌, refl, nat_eq, rules}
use borrow.Author.Tests.{tests}
use Rattle.std.proofs.lemmas.Iterator.{YieldsList-from_slice}
use Rattle.std.proofs.lemmas.Iterator.Search.{position_from_yields_List}
use Rattle.man_table.specs.Table.{live, find_in}
use Rattle.man_table.specs.Types.{SdoClientConnection}
use Rattle.man_table.proofs.Searches.{first_place}
use Rattle.man_table.proofs.held.find.Goals as goal

pub returns : goal.returns
returns c =
    let a = c.args in
    let p = λ (d : SdoClientConnection). nat_eq d.target_node_id a.node in
    position_from_yields_List p _ _ _ c.position.ensures.ran (YieldsList-from_slice (live a.m) cc) (λ x b q k. search (rules, tests))
    ∙ first_place p (find_in a.node) refl (λ d l. refl) (live a.m)
