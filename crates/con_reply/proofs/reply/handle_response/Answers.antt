-- `con_reply::reply::handle_response` meets its contract: the payload is put where it was decided, which lies within the room.
use mathlib.Core.Path.{subst, sym, ◌∙◌}
use Rattle.laws.proofs.Answers.{told}
use Rattle.codec.proofs.WrittenBytes.{put_fits}
use lib.ListN.{length}
use Rattle.con_reply.specs.Reply.{room_after}
use Rattle.con_reply.proofs.StoresWithin.{StoresWithin, stores_within}
use Rattle.con_reply.proofs.reply.handle_response.Goals as goal

pub returns-in-Stores-clause-room_after : goal.returns-in-Stores-clause-room_after
returns-in-Stores-clause-room_after c =
    let a = c.args in
    let e = c.reply_of.ensures in
    let f = c.in-Stores.is in
    let fits =
    subst (λ x. StoresWithin (length a.payload.now) a.room.now x) (sym e ∙ f)
    (stores_within a.seq a.cmd a.payload.now a.c a.room.now) in
    told (λ x. room_after x a.payload.now a.room.now) e f (c.put.ensures.buffer_after ∙ put_fits _ _ _ fits)
