-- `man_table::held::place_of` meets its contract: before the first whose node is larger, or after all.
use Rattle.std.proofs.Common.{◌∙◌, refl, nat_lt, rules}
use borrow.Author.Tests.{tests}
use Rattle.std.proofs.lemmas.Iterator.{YieldsList-from_slice}
use Rattle.std.proofs.lemmas.Iterator.Search.{position_from_yields_List}
use Rattle.man_table.specs.Table.{live, place_in}
use Rattle.man_table.specs.Types.{SdoClientConnection}
use Rattle.man_table.proofs.Searches.{before_first}
use Rattle.man_table.proofs.held.place_of.Goals as goal

pub returns : goal.returns
returns c =
    let a = c.args in
    let p = λ (d : SdoClientConnection). nat_lt a.node d.target_node_id in
    let first =
    position_from_yields_List p _ _ _ c.position.ensures.ran (YieldsList-from_slice (live a.m) cc) (λ x b q k. search (rules, tests)) in
    c.unwrap_or.ensures ∙ rw (first, c.held-held.ensures) (before_first p (place_in a.node) refl (λ d l. refl) (live a.m))
