-- `man_table::sweep::ends_of` meets its contract.
use mathlib.Core.Path.{refl}
use Rattle.man_table.specs.Sweep.{ends_in}
use Rattle.man_table.proofs.FillLoops.{adds, each_reported, reported, skips}
use Rattle.man_table.proofs.sweep.ends_of.Goals as goal

pub loop-c-preserved-in_default : goal.loop-c-preserved-in_default
loop-c-preserved-in_default c =
    skips ends_in reported each_reported _ _ _ _ _ _ c.loop-c.invariant c.loop-c-test.true _ _ c.end.ensures c.in_default.is refl

pub loop-c-preserved : goal.loop-c-preserved
loop-c-preserved c =
    adds ends_in reported each_reported _ _ _ _ _ _ c.loop-c.invariant c.loop-c-test.true _ _ c.end.ensures c.in-Some.is _ refl
