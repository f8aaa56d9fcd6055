-- `manager::room::write_in` meets its contract: the room is lent, and put back into the store.
use Rattle.connection.specs.Start.{start_write}
use Rattle.man_table.specs.Table.{room_in}
use Rattle.manager.proofs.LentRoom.{lent_room, room_back, write_stored}
use Rattle.laws.proofs.Clauses.{value_store}
use borrow.Author.Rules.{rules}
use lib.ListN.{length}
use mathlib.Core.Path.{◌≡◌, ◌∙◌}
use Rattle.manager.proofs.room.write_in.Goals as goal

pub returns : goal.returns
returns c =
    let a = c.args in
    let start = c.room_start-a.ensures in
    let long : length a.store.now ≡ 32768 = search rules in
    let e = lent_room a.store.now a.c _ start.value in
    value_store (
      rw e at c.start_write_job.ensures.value,
      room_back a.store.now _ _ a.c _ start.value start.within long c.start_write_job.auto.room (rw e at c.start_write_job.ensures.room_after)
          ∙ write_stored a.store.now long a.c a.mode a.index a.sub_index a.bytes.now
          (start_write a.c a.tid a.when a.mode a.index a.sub_index a.bytes.now (room_in a.store.now a.c)),
    )
