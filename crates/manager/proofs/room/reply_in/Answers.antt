-- `manager::room::reply_in` meets its contract: the room is lent, and put back into the store.
use Rattle.con_reply.specs.Reply.{reply_of}
use Rattle.man_table.specs.Table.{room_in}
use Rattle.manager.proofs.LentRoom.{lent_room, reply_stored, room_back}
use Rattle.laws.proofs.Clauses.{value_store}
use borrow.Author.Rules.{rules}
use lib.ListN.{length}
use mathlib.Core.Path.{◌≡◌, ◌∙◌}
use Rattle.manager.proofs.room.reply_in.Goals as goal

pub returns : goal.returns
returns c =
    let a = c.args in
    let start = c.room_start-a.ensures in
    let long : length a.store.now ≡ 32768 = search rules in
    let e = lent_room a.store.now a.c _ start.value in
    value_store (
      rw e at c.handle_response.ensures.value,
      room_back a.store.now _ _ a.c _ start.value start.within long c.handle_response.auto.room (rw e at c.handle_response.ensures.room_after)
          ∙ reply_stored a.store.now long a.c a.payload.now
          (reply_of a.seq a.cmd a.payload.now a.c (room_in a.store.now a.c)),
    )
