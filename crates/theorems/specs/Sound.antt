-- What is true of every manager that the calls made (document 01, "The manager"): at most eight connections, strictly ascending by node,
-- each in a room of its own; none that ended; and each consistent with its room.
use Rattle.std.specs.Prelude.{All, AllPairs, ℕ, ◌%◌, ◌≤◌, ◌<◌, ◌≡◌, false, List, length, None}
use Rattle.codec.specs.Bytes.{Bytes}
use Rattle.con_reply.specs.Consistent.{Consistent, is_closed}
use Rattle.man_table.specs.Table.{last_room, live, room_in, room_size, table_of}
use Rattle.theorems.specs.Run.{Event, Host, reached}
use Rattle.theorems.specs.Types.{SdoClientConnection, SdoClientManager}

-- where a room may start: at a multiple of 4,096 below 32,768
abbrev pub Slotted : ℕ → Type 0
Slotted room = (room % room_size ≡ 0) × (room ≤ last_room)

-- a connection before another one in the table: its node is smaller, and its room another
abbrev pub Before : SdoClientConnection → SdoClientConnection → Type 0
Before c d = (c.target_node_id < d.target_node_id) × (c.room ≡ d.room → ⊥)

abbrev pub Ordered : List SdoClientConnection → Type 0
Ordered l = AllPairs Before l

-- a connection that is held
pub record Sane (store : Bytes) (c : SdoClientConnection) : Type 0 where
  pub slotted : Slotted c.room
  pub runs : c.outcome ≡ None
  pub opened : is_closed c.state ≡ false
  pub consistent : Consistent c (room_in store c)

pub record Sound (m : SdoClientManager) (store : Bytes) : Type 0 where
  pub is : m ≡ table_of (live m) m.next_transaction_id
  pub few : length (live m) ≤ 8
  pub ordered : Ordered (live m)
  pub each : All (Sane store) (live m)
  pub number : m.next_transaction_id ≤ 255

-- every manager that any calls made of a new one, whatever the store lent at first
unfoldable pub Reached : Type 0
Reached = (lent : Bytes) (events : List Event) → let host : Host = reached lent events in Sound host.manager host.store
