-- `manager::room::dcf_in` meets its contract: the room is lent, and put back into the store.
use Rattle.connection.specs.Start.{start_dcf}
use Rattle.man_table.specs.Table.{room_in}
use Rattle.manager.proofs.LentRoom.{dcf_stored, lent_room, room_back}
use Rattle.laws.proofs.Clauses.{value_store}
use borrow.Author.Rules.{rules}
use lib.ListN.{length}
use mathlib.Core.Path.{◌≡◌, ◌∙◌}
use Rattle.manager.proofs.room.dcf_in.Goals as goal

pub returns : goal.returns
returns c =
    let a = c.args in
    let start = c.room_start-a.ensures in
    let long : length a.store.now ≡ 32768 = search rules in
    let e = lent_room a.store.now a.c _ start.value in
    value_store (
      rw e at c.start_concise_dcf_job.ensures.value,
      room_back a.store.now _ _ a.c _ start.value start.within long c.start_concise_dcf_job.auto.room (rw e at c.start_concise_dcf_job.ensures.room_after)
          ∙ dcf_stored a.store.now long a.c a.mode a.dcf.now
          (start_dcf a.c a.tid a.when a.mode a.dcf.now (room_in a.store.now a.c)),
    )
