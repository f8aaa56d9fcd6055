-- `manager::enter::insert`. The loop's invariant: the first `i` connections, with the new one in its place among them, fill the first `i + 1` places,
-- and the rest are blank.
use Rattle.manager.proofs.Insertion.{Shifting}
use Rattle.manager.proofs.enter.insert.Given as goal

abbrev pub invariant-loop-i : goal.invariant-loop-i
invariant-loop-i l = Shifting l.place l.fn.c l.held l.out l.i
