-- `manager::room::room_in` meets its contract: the part lent is the room.
use Rattle.manager.proofs.LentRoom.{lent_room}
use Rattle.manager.proofs.room.room_in.Goals as goal

pub returns : goal.returns
returns c = let a = c.args in lent_room a.store.now a.c _ c.room_start-a.ensures.value
