-- `man_table::held::uses_room` meets its contract: whether one has the room.
use Rattle.std.proofs.Common.{◌∙◌, refl, nat_eq, rules}
use borrow.Author.Tests.{tests}
use Rattle.std.proofs.lemmas.Iterator.{YieldsList-from_slice}
use Rattle.std.proofs.lemmas.Iterator.Search.{any_from_yields_List}
use Rattle.man_table.specs.Table.{uses_room}
use Rattle.man_table.specs.Types.{SdoClientConnection}
use Rattle.man_table.proofs.Searches.{one_passes}
use Rattle.man_table.proofs.held.uses_room.Goals as goal

pub returns : goal.returns
returns c =
    let a = c.args in
    let p = λ (d : SdoClientConnection). nat_eq d.room a.room in
    any_from_yields_List p _ _ _ c.any.ensures.ran (YieldsList-from_slice a.held.now cc) (λ x b q k. search (rules, tests))
    ∙ one_passes p (uses_room a.room) refl (λ d l. refl) a.held.now
