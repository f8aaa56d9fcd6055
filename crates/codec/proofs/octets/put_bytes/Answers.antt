-- `codec::octets::put_bytes` meets its contract: a turn pastes one byte more, and when all of src was gone through that is what `placed` says.
use Prim.Native.Nat.{◌+◌, ◌<◌}
use native.Mathlib.Omega.{arith}
use mathlib.Core.Path.{◌≡◌, ◌∙◌}
use mathlib.Core.List.{append_assoc}
use lib.ListN.{length, take}
use Rattle.std.proofs.lemmas.List.Edits.{paste_all, paste_more}
use Rattle.codec.specs.Bytes.{placed}
use Rattle.codec.proofs.octets.put_bytes.Goals as goal

pub loop-i-preserved : goal.loop-i-preserved
loop-i-preserved c =
    let a = c.args in
    let f : a.at + c.loop-i.i < length a.buffer.now = omega arith in
    rw c.loop-i.invariant (paste_more a.buffer.now a.at a.src.now c.loop-i.i 0 f (omega arith))

pub returns : goal.returns
unfolding placed
returns c =
    let a = c.args in
    let all : c.loop-i.i ≡ length a.src.now = omega arith in
    c.loop-i.invariant ∙ paste_all a.buffer.now a.at a.src.now c.loop-i.i all ∙ rw (all, append_assoc (take a.at a.buffer.now))
