-- Every refusal leaves state, store and output untouched, but 4 and 5 take a transaction number, and 5 for a new node enters an Idle
-- connection (document 01, "Numbers that refuse").
use Rattle.std.specs.Prelude.{ℕ, ◌≡◌, [], Option, Some, None}
use Rattle.laws.specs.Pick.{pick}
use Rattle.codec.specs.Bytes.{Bytes}
use Rattle.con_rec.specs.Record.{new_connection}
use Rattle.manager.specs.Calls.{After, Call, called, number_of, reads, replies, starts, takes_number, turns}
use Rattle.man_table.specs.Table.{find_in, free_room, insert_in, live, table_of}
use Rattle.theorems.specs.Run.{reported}
use Rattle.theorems.specs.Types.{Answer, Mode, Now, Refusal, SdoClientManager}

-- the next number taken; for a node that is not held, with an Idle connection entered
abbrev pub stepped : SdoClientManager → SdoClientManager
stepped m = record { connections = m.connections; count = m.count; next_transaction_id = number_of m }

abbrev pub numbered : Option ℕ → SdoClientManager → ℕ → SdoClientManager
numbered (Some k) m node = stepped m
numbered None m node = table_of (insert_in (new_connection node (free_room (live m))) (live m)) (number_of m)

-- the manager that a refusal leaves
abbrev pub refused_by : SdoClientManager → Call → Refusal → SdoClientManager
refused_by m (starts node job n) r = pick (takes_number r) (numbered (find_in node (live m)) m node) m
refused_by m (turns t n) r = m
refused_by m (replies node seq cmd payload) r = m

-- of any manager, store and output
unfoldable pub Untouched : Type 0
Untouched =
    (m : SdoClientManager) (store output : Bytes) (x : Call) (r : Refusal)
    → let a : After = called m store output x in
    a.done.answer ≡ Answer.Refused r
    → (a.done.manager ≡ refused_by m x r) × (a.store ≡ store) × (a.output ≡ output) × (reported a ≡ [])

-- a read changes no byte of the store, taken or refused
unfoldable pub ReadsLeaveStore : Type 0
ReadsLeaveStore =
    (m : SdoClientManager) (store output : Bytes) (node : ℕ) (mode : Mode) (index sub : ℕ) (now : Now)
    → (called m store output (starts node (reads mode index sub) now)).store ≡ store
