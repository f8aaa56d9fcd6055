-- `replay_line::text::Text::byte` meets its contract.
use native.Mathlib.Omega.{arith}
use mathlib.Core.Path.{refl}
use lib.ListN.{length-set}
use Rattle.replay_line.proofs.PutText.{stored}
use Rattle.replay_line.proofs.text.Text.byte.Goals as goal

pub returns : goal.returns
returns c =
    record {
      same_buffer = refl;
      bytes = stored _ _ _ (omega arith);
      ends = omega arith;
      few = omega arith;
      fits = omega arith;
      long = simp length-set;
    }
