-- `man_table::sweep::any_end` meets its contract: whether one has an end.
use Rattle.std.proofs.Common.{◌∙◌, refl, rules}
use borrow.Author.Tests.{tests}
use Rattle.std.specs.Option.{is_some}
use Rattle.std.proofs.lemmas.Iterator.{YieldsList-from_slice}
use Rattle.std.proofs.lemmas.Iterator.Search.{any_from_yields_List}
use Rattle.con_rec.specs.Record.{end_of}
use Rattle.man_table.specs.Sweep.{any_end}
use Rattle.man_table.specs.Table.{live}
use Rattle.man_table.specs.Types.{SdoClientConnection}
use Rattle.man_table.proofs.Searches.{one_passes, end_or}
use Rattle.man_table.proofs.sweep.any_end.Goals as goal

pub returns : goal.returns
returns c =
    let a = c.args in
    let p = λ (d : SdoClientConnection). is_some (end_of d) in
    any_from_yields_List p _ _ _ c.any.ensures.ran (YieldsList-from_slice (live a.m) cc) (λ x b q k. search (rules, tests))
    ∙ one_passes p any_end refl (λ d l. end_or (end_of d) (any_end l)) (live a.m)
