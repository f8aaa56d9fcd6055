-- The table (document 01, "Which shape goes where"): eight connections in an array inside the manager's value, beside count and transaction
-- counter. The held ones are the first `count`, ascending by node; the rest are blank. Every definition speaks of the list of those held.
use Rattle.std.specs.Prelude.{ℕ, zero, suc, ◌-◌, ◌*◌, ◌≤◌, min, ◌≡◌, Bool, true, false, List, [], ◌∷◌, ◌++◌, ltb, leb, eqb, length, take, drop, get_or, replicate, Option, Some, None}
use Rattle.laws.specs.Pick.{pick}
use Rattle.codec.specs.Bytes.{Bytes}
use Rattle.con_rec.specs.Record.{new_connection}
use Rattle.man_table.specs.Types.{SdoClientConnection, SdoClientManager, Entry}

-- what stands in every place past the held ones
abbrev pub blank : SdoClientConnection
blank = new_connection 0 0

-- the connections held: the first `count`, of eight
abbrev pub live : SdoClientManager → List SdoClientConnection
live m = take m.count m.connections

-- a list in eight places, blank after it, and the manager that holds it
abbrev pub padded : List SdoClientConnection → List SdoClientConnection
padded l = l ++ replicate (8 - length l) blank

abbrev pub table_of : List SdoClientConnection → ℕ → SdoClientManager
table_of l transaction = record { connections = padded l; count = length l; next_transaction_id = transaction }

abbrev pub new_manager : SdoClientManager
new_manager = table_of [] 0

-- what is known of how many are held
pub record Lived (m : SdoClientManager) (n : ℕ) : Type 0 where
  pub most : n ≤ 8
  pub front : take n m.connections ≡ live m
  pub back : drop n m.connections ≡ drop m.count m.connections
  pub all : length m.connections ≡ 8

-- the place of a node's connection
abbrev pub one_further : Option ℕ → Option ℕ
one_further None = None
one_further (Some k) = Some (suc k)

abbrev pub find_in : ℕ → List SdoClientConnection → Option ℕ
find_in node [] = None
find_in node (c ∷ l) = pick (eqb c.target_node_id node) (Some 0) (one_further (find_in node l))

-- how many stand before the first whose node is larger
abbrev pub place_in : ℕ → List SdoClientConnection → ℕ
place_in node [] = 0
place_in node (c ∷ l) = pick (ltb node c.target_node_id) 0 (suc (place_in node l))

abbrev pub insert_at : ℕ → SdoClientConnection → List SdoClientConnection → List SdoClientConnection
insert_at k c l = take k l ++ c ∷ drop k l

abbrev pub insert_in : SdoClientConnection → List SdoClientConnection → List SdoClientConnection
insert_in c l = insert_at (place_in c.target_node_id l) c l

-- Rooms of 4,096 bytes in a store of 32,768, and whether a connection has a room.
abbrev pub room_size : ℕ
room_size = 4096

abbrev pub store_size : ℕ
store_size = 32768

abbrev pub uses_room : ℕ → List SdoClientConnection → Bool
uses_room room [] = false
uses_room room (c ∷ l) = pick (eqb c.room room) true (uses_room room l)

-- where a connection's room starts, within the store whatever the record says
abbrev pub last_room : ℕ
last_room = 28672

abbrev pub room_start : SdoClientConnection → ℕ
room_start c = min c.room last_room

-- the bytes of a connection's room in the store
abbrev pub room_in : Bytes → SdoClientConnection → Bytes
room_in store c = take room_size (drop (room_start c) store)

-- the first room that no connection has, of the next `left` from the k-th on; the last room where all are had
abbrev pub free_from : ℕ → ℕ → List SdoClientConnection → ℕ
free_from zero k l = last_room
free_from (suc left) k l = pick (uses_room (k * room_size) l) (free_from left (suc k) l) (k * room_size)

unfoldable pub free_room : List SdoClientConnection → ℕ
free_room l = free_from 8 0 l

-- the connection at a place of the array, and at a place of those held
abbrev pub connection_at : SdoClientManager → ℕ → SdoClientConnection
connection_at m k = get_or m.connections k blank

abbrev pub held_at : SdoClientManager → ℕ → SdoClientConnection
held_at m k = get_or (live m) k blank

-- whose job it is: a connection held, at its place; a new one, with a free room; or nobody's, where eight are held
abbrev pub target_at : Option ℕ → SdoClientManager → ℕ → Entry
target_at (Some k) m node = Entry.At k (held_at m k)
target_at None m node =
    pick (leb 8 (length (live m))) Entry.Nowhere (Entry.New (new_connection node (free_room (live m))))

unfoldable pub target_of : SdoClientManager → ℕ → Entry
target_of m node = target_at (find_in node (live m)) m node
