-- What is left of the piece falls: what is read is a part of it, and not none of it.
use Rattle.std.proofs.Common.{length}
use Rattle.replay_run.proofs.replay.piece_by.Given as goal

abbrev pub decreases-loop-left : goal.decreases-loop-left
decreases-loop-left g l = length l.left
