-- `man_table::held::free_room`. The loop's invariant: the first free room of those from the k-th on is the first free of all.
use Rattle.man_table.proofs.Searches.{Freeing}
use Rattle.man_table.proofs.held.free_room.Given as goal

abbrev pub invariant-loop-k : goal.invariant-loop-k
invariant-loop-k l = Freeing l.held l.k
