-- `man_table::walk::walk`. The loop's invariant: with i passed, the walk of the whole is the walk of the rest behind those.
use Prim.Native.Nat.{◌≤◌}
use Rattle.man_table.proofs.WalkLoop.{Going, Kept}
use Rattle.man_table.proofs.walk.walk.Given as goal

abbrev pub invariant-loop-i : goal.invariant-loop-i
invariant-loop-i l = (Going l.t l.n l.m.connections l.held l.after.connections l.i) × (Kept l.m l.after) × (l.held ≤ 8)
