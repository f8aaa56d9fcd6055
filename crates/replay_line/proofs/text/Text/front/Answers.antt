-- `replay_line::text::Text::front` meets its contract.
use native.Mathlib.Omega.{arith}
use Prim.Native.Nat.{◌-◌}
use Rattle.replay_line.proofs.SpelledDigits.{power_positive, spelled_all, spelled_digit, spelled_none, spelled_skip}
use Rattle.replay_line.proofs.text.Text.front.Goals as goal

pub loop-i-init : goal.loop-i-init
loop-i-init c = spelled_none _ _ _ (omega arith)

pub nonzero_div-n : goal.nonzero_div-n
nonzero_div-n c = let p = power_positive (c.args.places - c.loop-i.i) in let e = c.power_of-p.ensures in omega arith

pub loop-i-preserved-then-n-p : goal.loop-i-preserved-then-n-p
loop-i-preserved-then-n-p c = spelled_skip c.loop-i.invariant c.loop-i-test.true c.power_of-p.ensures (omega arith)

pub loop-i-preserved : goal.loop-i-preserved
loop-i-preserved c =
    spelled_digit c.loop-i.invariant c.loop-i-test.true c.power_of-p.ensures (omega arith) c.digit_of.ensures c.byte.ensures

pub returns : goal.returns
returns c = spelled_all c.loop-i.invariant (omega arith)
