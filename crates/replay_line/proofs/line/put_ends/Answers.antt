-- `replay_line::line::put_ends` meets its contract: the first end and the further ones, or `-`.
use native.Mathlib.Omega.{arith}
use Prim.Native.Nat.{◌+◌, ◌*◌, ◌-◌, ◌≤◌}
use lib.ListN.{length, take, drop, length-take, length-drop}
use Rattle.std.proofs.lemmas.Bool.Decides.{nat_tests}
use Rattle.replay_line.proofs.EndsText.{first_end}
use Rattle.replay_line.proofs.PutText.{put_as, put_within, puts}
use Rattle.replay_line.proofs.line.put_ends.Goals as goal

pub returns : goal.returns
returns c =
    let few : 16 + 17 * length (take (length c.args.ends.now - 1) (drop 1 c.args.ends.now)) ≤ 136 =
    simp (length-take, length-drop) (omega arith) in
    put_as (first_end _ _ (grind (arith, nat_tests))) (put_within 136 few (puts c.put_end.ensures c.put_further.ensures))
