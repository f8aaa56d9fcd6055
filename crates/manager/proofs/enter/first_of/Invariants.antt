-- `manager::enter::first_of`. The loop's invariant: the places from the `n`-th to the `i`-th are blank, and those before them are as they were.
use Rattle.man_table.proofs.FillLoops.{Blanking}
use Rattle.manager.proofs.enter.first_of.Given as goal

abbrev pub invariant-loop-i : goal.invariant-loop-i
invariant-loop-i l = Blanking l.initial.out l.n l.out l.i
