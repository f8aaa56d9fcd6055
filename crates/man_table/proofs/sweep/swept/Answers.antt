-- `man_table::sweep::swept` meets its contract.
use Rattle.man_table.specs.Sweep.{running}
use Rattle.man_table.proofs.FillLoops.{adds, each_kept, gone, kept, skips, stays}
use Rattle.man_table.proofs.sweep.swept.Goals as goal
use mathlib.Core.Path.{refl}

pub loop-c-preserved-then-is_some : goal.loop-c-preserved-then-is_some
loop-c-preserved-then-is_some c =
    skips running kept each_kept _ _ _ _ _ _ c.loop-c.invariant c.loop-c-test.true _ _ c.end.ensures refl
    (gone _ _ _ c.is_some.ensures c.if-is_some.true)

pub loop-c-preserved : goal.loop-c-preserved
loop-c-preserved c =
    adds running kept each_kept _ _ _ _ _ _ c.loop-c.invariant c.loop-c-test.true _ _ c.end.ensures refl _
    (stays _ _ _ c.is_some.ensures c.if-is_some.false)
