-- `man_table::sweep::swept`. The loop's invariant: of the connections passed those that run on fill the first `k` places, and the rest are blank.
use Rattle.man_table.specs.Sweep.{running}
use Rattle.man_table.specs.Table.{blank}
use Rattle.man_table.proofs.FillLoops.{Filling}
use Rattle.man_table.proofs.sweep.swept.Given as goal

abbrev pub invariant-loop-c : goal.invariant-loop-c
invariant-loop-c l = Filling running blank l.c-items l.out l.k l.c-index
