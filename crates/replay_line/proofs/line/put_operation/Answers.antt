-- `replay_line::line::put_operation` meets its contract: the operation, or `-`.
use native.Mathlib.Omega.{arith}
use Rattle.replay_line.proofs.Lines.{operation_none, operation_some}
use Rattle.replay_line.proofs.PutText.{put_within}
use Rattle.replay_line.proofs.line.put_operation.Goals as goal

pub returns-then-b-lt32 : goal.returns-then-b-lt32
returns-then-b-lt32 c = operation_none _ (omega arith) (put_within 3 (omega arith) c.byte.ensures)

pub returns : goal.returns
returns c = operation_some _ (omega arith) c.decimal.ensures
