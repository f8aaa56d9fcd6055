-- `replay_line::line::put_command` meets its contract: a command's head never lacks room, and it is put in hex and the payload behind it.
use native.Mathlib.Omega.{arith}
use mathlib.Core.Path.{refl, sym}
use lib.Seq.{length-take-le}
use Rattle.replay_line.proofs.LineBuffer.{command_put, head_len, head_most, head_ok, head_sent}
use Rattle.replay_line.proofs.PutText.{put_within}
use Rattle.replay_line.proofs.line.put_command.Goals as goal

pub unwrap-n-requires : goal.unwrap-n-requires
unwrap-n-requires c = head_ok _ _ refl c.serialize.ensures.value

pub slice_bounds-head-end : goal.slice_bounds-head-end
slice_bounds-head-end c =
    let l = head_most c.args.c in
    let e = head_len _ _ refl c.serialize.ensures.value c.unwrap-n.ensures in
    omega arith

pub slice_bounds-hex-end : goal.slice_bounds-hex-end
slice_bounds-hex-end c =
    let l = head_most c.args.c in
    let e = head_len _ _ refl c.serialize.ensures.value c.unwrap-n.ensures in
    sym (length-take-le _ _ (omega arith))

pub returns : goal.returns
returns c =
    let e = head_sent _ _ refl c.serialize.ensures.value c.unwrap-n.ensures c.serialize.ensures.buffer_after in
    let l = head_most c.args.c in
    let k = head_len _ _ refl c.serialize.ensures.value c.unwrap-n.ensures in
    let j = length-take-le c.unwrap-n.result c.serialize.new.buffer (omega arith) in
    put_within 2928 (omega arith) (command_put _ _ e c.hex.ensures c.hex-2.ensures)
