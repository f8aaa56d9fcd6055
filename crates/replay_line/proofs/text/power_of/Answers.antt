-- `replay_line::text::power_of` meets its contract: the table has the powers.
use native.Mathlib.Omega.{arith}
use Rattle.replay_line.proofs.SpelledDigits.{powers}
use Rattle.replay_line.proofs.text.power_of.Goals as goal

pub returns : goal.returns
returns c = powers c.args.k (omega arith)
