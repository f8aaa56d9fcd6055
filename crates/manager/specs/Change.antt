-- A change: what a call changes of the manager, where it changes one connection at most. Done, it gives the manager after the call, its answer
-- and the ends that it reports.
use Rattle.std.specs.Prelude.{ℕ, true, false, List, ltb, length, set}
use Rattle.laws.specs.Pick.{pick}
use Rattle.con_rec.specs.Record.{next_transaction}
use Rattle.man_table.specs.Sweep.{running, ends_in, ends_of, no_ends}
use Rattle.man_table.specs.Table.{insert_in, live, table_of}
use Rattle.manager.specs.Types.{Answer, Change, Done, Entry, Refusal, SdoClientConnection, SdoClientManager}

-- a call that leaves a list of connections: the ended ones are removed and reported
abbrev pub leaving : List SdoClientConnection → ℕ → Answer → Done
leaving l number answer =
    record { manager = table_of (running l) number; answer = answer; ends = ends_of (ends_in l) }

-- a call that leaves the manager as it was, or one that it names: no end
abbrev pub answering : SdoClientManager → Answer → Done
answering m answer = record { manager = m; answer = answer; ends = no_ends }

abbrev pub refusing : SdoClientManager → Refusal → Done
refusing m r = answering m (Answer.Refused r)

-- nothing changes; a tick, an ask or a reply puts a connection somewhere; a start enters one, or is refused, and takes a number
abbrev pub same : Answer → Change
same answer = record { entry = Entry.Nowhere; numbers = false; sweeps = false; answer = answer }

abbrev pub putting : Entry → Answer → Change
putting entry answer = record { entry = entry; numbers = false; sweeps = true; answer = answer }

abbrev pub taking : Entry → Answer → Change
taking entry answer = record { entry = entry; numbers = true; sweeps = false; answer = answer }

-- the transaction number after a change
unfoldable pub number_after : Change → ℕ → ℕ
number_after change number = pick change.numbers (next_transaction number) number

-- the manager with a connection entered, and a number; in a full table none is entered
unfoldable pub entered_at : SdoClientManager → Entry → ℕ → SdoClientManager
entered_at m Entry.Nowhere number =
    record { connections = m.connections; count = m.count; next_transaction_id = number }
entered_at m (Entry.At k c) number = table_of (set (live m) k c) number
entered_at m (Entry.New c) number = pick (ltb (length (live m)) 8) (table_of (insert_in c (live m)) number) m

abbrev pub entered : SdoClientManager → Change → SdoClientManager
entered m change = entered_at m change.entry (number_after change m.next_transaction_id)

-- a change, done
unfoldable pub change_done : SdoClientManager → Change → Done
change_done m change =
    pick change.sweeps
    (leaving (live (entered m change)) (entered m change).next_transaction_id change.answer)
    (answering (entered m change) change.answer)
