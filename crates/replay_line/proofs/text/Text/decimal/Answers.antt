-- `replay_line::text::Text::decimal` meets its contract: the digits before the last, and the last.
use native.Mathlib.Omega.{arith}
use Rattle.replay_line.proofs.SpelledDigits.{last_digit, one_digit}
use Rattle.replay_line.proofs.text.Text.decimal.Goals as goal

pub returns-then-n-lt10 : goal.returns-then-n-lt10
returns-then-n-lt10 c = one_digit _ _ (omega arith) c.digit_of.ensures c.byte.ensures

pub returns : goal.returns
returns c = last_digit _ c.front.ensures c.digit_of-2.ensures c.byte-2.ensures
