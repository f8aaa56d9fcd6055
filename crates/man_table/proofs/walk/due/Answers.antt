-- `man_table::walk::due` meets its contract: the first that does not rest.
use Rattle.std.proofs.Common.{◌∙◌, not, refl, rules}
use borrow.Author.Tests.{tests}
use Rattle.std.proofs.lemmas.Iterator.{YieldsList-from_slice}
use Rattle.std.proofs.lemmas.Iterator.Search.{position_from_yields_List}
use Rattle.man_table.specs.Resting.{due_in, rests_of}
use Rattle.man_table.specs.Table.{live}
use Rattle.man_table.specs.Types.{SdoClientConnection}
use Rattle.man_table.proofs.Searches.{first_place, pick_not}
use Rattle.man_table.proofs.walk.due.Goals as goal

pub returns : goal.returns
returns c =
    let a = c.args in
    let p = λ (d : SdoClientConnection). not (rests_of a.t d a.when) in
    position_from_yields_List p _ _ _ c.position.ensures.ran (YieldsList-from_slice (live a.m) cc) (λ x b q k. search (rules, tests))
    ∙ first_place p (due_in a.t a.when) refl (λ d l. pick_not _ _ _) (live a.m)
