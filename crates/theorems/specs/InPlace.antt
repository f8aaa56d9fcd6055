-- A loop that keeps a manager these calls made does most changes in place, as the replay's does: it puts the connection at its place of the array and
-- the number in its own, and nothing else of the manager moves.
use Rattle.std.specs.Prelude.{All, ℕ, ◌≡◌, List, ltb, set, None}
use Rattle.laws.specs.Pick.{pick}
use Rattle.codec.specs.Bytes.{Bytes}
use Rattle.man_table.specs.Sweep.{running}
use Rattle.man_table.specs.Table.{live, table_of}
use Rattle.manager.specs.Change.{answering, change_done, number_after}
use Rattle.theorems.specs.Sound.{Sound}
use Rattle.theorems.specs.Types.{Change, Entry, SdoClientConnection, SdoClientManager}

-- a manager as its calls leave it: those held come first, blank after them, and none of them has ended
abbrev pub Runs : SdoClientConnection → Type 0
Runs c = c.outcome ≡ None

pub record Neat (m : SdoClientManager) : Type 0 where
  pub is : m ≡ table_of (live m) m.next_transaction_id
  pub each : All Runs (live m)

-- a change that can be done in place: no connection is entered, and what is put at a place has not ended
abbrev pub Stays : Entry → Type 0
Stays Entry.Nowhere = Unit
Stays (Entry.At k d) = Runs d
Stays (Entry.New d) = ⊥

-- the array after it, of which so many places are held, and what the call comes to
abbrev pub put_in : Entry → ℕ → List SdoClientConnection → List SdoClientConnection
put_in Entry.Nowhere count l = l
put_in (Entry.At k d) count l = pick (ltb k count) (set l k d) l
put_in (Entry.New d) count l = l

abbrev pub in_place : SdoClientManager → Change → SdoClientManager
in_place m c =
    record {
      connections = put_in c.entry m.count m.connections;
      count = m.count;
      next_transaction_id = number_after c m.next_transaction_id;
    }

-- a sweep leaves such a manager as it is, and a change of it can be done in place
unfoldable pub InPlace : Type 0
InPlace =
    ((m : SdoClientManager) (store : Bytes) → Sound m store → Neat m)
    × ((m : SdoClientManager) → Neat m → table_of (running (live m)) m.next_transaction_id ≡ m)
    × ((m : SdoClientManager) → Neat m → (c : Change) → Stays c.entry → change_done m c ≡ answering (in_place m c) c.answer)
