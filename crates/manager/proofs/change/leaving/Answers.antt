-- `manager::change::leaving` meets its contract: swept, and the ends; where nothing ended, those held are all that run on.
use Rattle.man_table.proofs.FillLoops.{unreported, unswept}
use Rattle.manager.proofs.change.leaving.Goals as goal

pub returns : goal.returns
returns c =
    let m = c.args.m in
    let h = c.any_end.ensures in
    rw (
      unreported m _ h c.if-any_end.false _ c.no_ends.ensures,
      unswept m _ h c.if-any_end.false _ _ c.lived-n.ensures c.first_of-connections.ensures,
    )
