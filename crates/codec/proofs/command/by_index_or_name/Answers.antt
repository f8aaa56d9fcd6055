-- `codec::command::by_index_or_name` meets its contract: each arm's command has the number that led to it.
use native.Mathlib.Omega.{arith}
use Rattle.codec.proofs.Commands.{known}
use Rattle.codec.proofs.command.by_index_or_name.Goals as goal

pub returns-in-0 : goal.returns-in-0
returns-in-0 c = known (omega arith)

pub returns-in-1 : goal.returns-in-1
returns-in-1 c = known (omega arith)

pub returns-in-2 : goal.returns-in-2
returns-in-2 c = known (omega arith)

pub returns-in-3 : goal.returns-in-3
returns-in-3 c = known (omega arith)

pub returns-in-4 : goal.returns-in-4
returns-in-4 c = known (omega arith)

pub returns-in-5 : goal.returns-in-5
returns-in-5 c = known (omega arith)

pub returns-in_default : goal.returns-in_default
returns-in_default c = known (omega arith)
