-- `CommandId::try_from` meets its contract: each arm's command has the number that led to it, and none has a number that led to a refusal.
use native.Mathlib.Omega.{arith}
use borrow.Author.Rules.{rules}
use Rattle.codec.proofs.Commands.{decoded, unknown}
use Rattle.codec.proofs.command.CommandIdTryFromU8.try_from.Goals as goal

pub returns-in-64 : goal.returns-in-64
returns-in-64 c = decoded (omega arith)

pub returns-in-112 : goal.returns-in-112
returns-in-112 c = decoded (omega arith)

pub returns-then-number-eq32 : goal.returns-then-number-eq32
returns-then-number-eq32 c = decoded (omega arith)

pub returns-else-number-eq32 : goal.returns-else-number-eq32
returns-else-number-eq32 c = decoded (omega arith)

pub returns-then-number-eq49 : goal.returns-then-number-eq49
returns-then-number-eq49 c = decoded (omega arith)

pub returns-else-number-eq49 : goal.returns-else-number-eq49
returns-else-number-eq49 c = decoded (omega arith)

pub returns-in_default : goal.returns-in_default
returns-in_default c = unknown (search rules)

pub returns-in_default-2 : goal.returns-in_default-2
returns-in_default-2 c = unknown (search rules)

pub returns-in_default-3 : goal.returns-in_default-3
returns-in_default-3 c = unknown (search rules)
