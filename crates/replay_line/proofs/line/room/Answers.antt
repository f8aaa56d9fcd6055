-- `replay_line::line::room` meets its contract.
use native.Mathlib.Omega.{arith}
use mathlib.Core.Path.{refl}
use Rattle.laws.proofs.Picks.{beyond, within}
use Rattle.replay_line.proofs.line.room.Goals as goal

pub returns-then-saturating_sub-lt-MOST_LINE : goal.returns-then-saturating_sub-lt-MOST_LINE
returns-then-saturating_sub-lt-MOST_LINE c = beyond _ _ _ _ (omega arith) refl

pub returns : goal.returns
returns c = within _ _ _ _ (omega arith) refl
