-- `man_table::sweep::ends_of`. The loop's invariant: the ends of the connections passed fill the first places, and the rest are blank.
use Rattle.man_table.specs.Sweep.{ends_in, no_end}
use Rattle.man_table.proofs.FillLoops.{Filling}
use Rattle.man_table.proofs.sweep.ends_of.Given as goal

abbrev pub invariant-loop-c : goal.invariant-loop-c
invariant-loop-c l = Filling ends_in no_end l.c-items l.ends.list l.ends.count l.c-index
