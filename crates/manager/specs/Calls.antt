-- The calls of the panel (document 01, "The manager" and "Numbers that refuse"): what each makes of the manager, the store and the output that it
-- is lent, what it answers and which ends it reports. Starts check 9, 6, 4, 5, 7, 8. Tick and ask check 9, 1, then walk. A reply checks 9, then its
-- own steps. Every refusal leaves state, store and output untouched, but 4 and 5 take a transaction number, and 5 for a new node enters an Idle
-- connection.
use Rattle.std.specs.Prelude.{ℕ, min, Bool, true, false, List, [], ◌∷◌, ltb, eqb, length, get_or, Option, Some, None, Result, Ok, Err}
use Rattle.codec.specs.declared.refusal.Refusal.{Refusal}
use Rattle.codec.specs.declared.sequence.SequenceLayerHeader.{SequenceLayerHeader}
use Rattle.con_rec.specs.declared.SdoClientConnection.{SdoClientConnection}
use Rattle.con_rec.specs.declared.Outgoing.{Outgoing}
use Rattle.codec.specs.declared.command.SdoCommand.{SdoCommand}
use Rattle.laws.specs.Pick.{pick}
use Rattle.codec.specs.Bytes.{Bytes, placed}
use Rattle.codec.specs.Writing.{buffer_after}
use Rattle.con_rec.specs.Commands.{sequence_of, command_of}
use Rattle.con_rec.specs.Payload.{payload_of}
use Rattle.con_rec.specs.Record.{next_transaction}
use Rattle.con_reply.specs.Reply.{reply_of, replied, room_after}
use Rattle.connection.specs.Start.{start_read, start_write, start_dcf}
use Rattle.man_table.specs.Table.{blank, find_in, held_at, live, room_in, room_start, store_size, target_of}
use Rattle.manager.specs.Change.{change_done, leaving, putting, refusing, same, taking}
use Rattle.manager.specs.Types.{
  Answer,
  Change,
  Decision,
  Done,
  Entry,
  Mode,
  Now,
  Outgoing,
  Refusal,
  SdoClientConnection,
  SdoClientManager,
  SdoCommand,
  SequenceLayerHeader,
  Turn,
}
use Rattle.manager.specs.Value.{value_of}
use Rattle.man_table.specs.Walk.{Walking, refused, through, stopped, walk_list}

-- the job that a start is for, in the mode that the start chooses
pub data Job : Type 0 where
  writes : Mode → ℕ → ℕ → Bytes → Job
  reads : Mode → ℕ → ℕ → Job
  loads : Mode → Bytes → Job

-- the mode of a job
abbrev pub mode_of : Job → Mode
mode_of (writes mode index sub bytes) = mode
mode_of (reads mode index sub) = mode
mode_of (loads mode dcf) = mode

-- a call: a start of a job for a node; a tick or an ask; a reply from a node
pub data Call : Type 0 where
  starts : ℕ → Job → Now → Call
  turns : Turn → Now → Call
  replies : ℕ → SequenceLayerHeader → SdoCommand → Bytes → Call

-- what comes of a call: manager, answer and ends, and the store and the output that were lent to it
pub record After : Type 0 where
  pub done : Done
  pub store : Bytes
  pub output : Bytes

-- ---- rooms

-- the store with other bytes in a connection's room
abbrev pub with_room : Bytes → SdoClientConnection → Bytes → Bytes
with_room store c room = placed store (room_start c) room

-- ---- a start and a reply: what is changed of the manager, and the store

pub record Effect : Type 0 where
  pub change : Change
  pub store : Bytes

abbrev pub refuses : Refusal → Bytes → Effect
refuses r store = record { change = same (Answer.Refused r); store = store }

-- what the job makes of a connection, and its bytes at the start of the room
abbrev pub start_job : Job → SdoClientConnection → ℕ → Now → Bytes → Result SdoClientConnection Refusal
start_job (writes mode index sub bytes) c t n room = start_write c t n mode index sub bytes room
start_job (reads mode index sub) c t n room = start_read c t n mode index sub
start_job (loads mode dcf) c t n room = start_dcf c t n mode dcf room

abbrev pub job_room : Job → Bytes → Bytes
job_room (writes mode index sub bytes) room = placed room 0 bytes
job_room (reads mode index sub) room = room
job_room (loads mode dcf) room = placed room 0 dcf

-- Each start takes the next transaction number, 1 to 255 and round.
abbrev pub number_of : SdoClientManager → ℕ
number_of m = next_transaction m.next_transaction_id

-- 4 and 5 take a transaction number; 5 for a new node enters an Idle connection
abbrev pub takes_number : Refusal → Bool
takes_number Refusal.BufferTooShort = false
takes_number Refusal.InvalidEnumValue = false
takes_number Refusal.SdoInvalidCommandPayload = false
takes_number Refusal.Busy = true
takes_number Refusal.DcfTooShort = true
takes_number Refusal.TableFull = false
takes_number Refusal.NoRoom = false
takes_number Refusal.DeadlineRange = false
takes_number Refusal.WrongStore = false
takes_number Refusal.BadRecord = false
takes_number Refusal.ShortRecord = false

abbrev pub idle_of : Entry → Entry
idle_of Entry.Nowhere = Entry.Nowhere
idle_of (Entry.At k c) = Entry.Nowhere
idle_of (Entry.New c) = Entry.New c

-- another connection where one stands
abbrev pub with_connection : Entry → SdoClientConnection → Entry
with_connection Entry.Nowhere d = Entry.Nowhere
with_connection (Entry.At k c) d = Entry.At k d
with_connection (Entry.New c) d = Entry.New d

-- the connection that a job goes to; 9, or 6 where eight are held
abbrev pub seat_of : Entry → Result SdoClientConnection Refusal
seat_of Entry.Nowhere = Err Refusal.TableFull
seat_of (Entry.At k c) = Ok c
seat_of (Entry.New c) = Ok c

unfoldable pub seat_in : Entry → ℕ → Result SdoClientConnection Refusal
seat_in entry size = pick (eqb size store_size) (seat_of entry) (Err Refusal.WrongStore)

abbrev pub started_as : Result SdoClientConnection Refusal → Entry → Change
started_as (Ok d) entry = taking (with_connection entry d) Answer.Nothing
started_as (Err r) entry =
    pick (takes_number r) (taking (idle_of entry) (Answer.Refused r)) (same (Answer.Refused r))

abbrev pub started_store : Result SdoClientConnection Refusal → Job → SdoClientConnection → Bytes → Bytes
started_store (Ok d) job c store = with_room store c (job_room job (room_in store c))
started_store (Err r) job c store = store

abbrev pub start_at : Result SdoClientConnection Refusal → Entry → SdoClientManager → Job → Now → Bytes → Effect
start_at (Err r) entry m job n store = refuses r store
start_at (Ok c) entry m job n store =
    record {
      change = started_as (start_job job c (number_of m) n (room_in store c)) entry;
      store = started_store (start_job job c (number_of m) n (room_in store c)) job c store;
    }

unfoldable pub start_of : SdoClientManager → ℕ → Job → Now → Bytes → Effect
start_of m node job n store =
    start_at (seat_in (target_of m node) (length store)) (target_of m node) m job n store

-- a reply, by what the node's connection makes of it: one that ends a read Complete answers its value; a node that is not held is ignored
abbrev pub replied_as : Result SdoClientConnection Refusal → ℕ → Change
replied_as (Ok d) k = putting (Entry.At k d) (value_of d)
replied_as (Err r) k = same (Answer.Refused r)

abbrev pub replied_store : Result SdoClientConnection Refusal → Bytes → Bytes → Bytes
replied_store (Ok d) after store = after
replied_store (Err r) after store = store

abbrev pub reply_by : Decision → ℕ → SdoClientConnection → Bytes → Bytes → Effect
reply_by x k c payload store =
    record {
      change = replied_as (replied x) k;
      store = replied_store (replied x) (with_room store c (room_after x payload (room_in store c))) store;
    }

abbrev pub reply_at : Option ℕ → SdoClientManager → SequenceLayerHeader → SdoCommand → Bytes → Bytes → Effect
reply_at None m seq cmd payload store = record { change = same Answer.Nothing; store = store }
reply_at (Some k) m seq cmd payload store =
    reply_by (reply_of seq cmd payload (held_at m k) (room_in store (held_at m k))) k (held_at m k) payload store

unfoldable pub reply_from : SdoClientManager → ℕ → SequenceLayerHeader → SdoCommand → Bytes → Bytes → Effect
reply_from m node seq cmd payload store =
    pick (eqb (length store) store_size)
    (reply_at (find_in node (live m)) m seq cmd payload store)
    (refuses Refusal.WrongStore store)

-- ---- tick and ask: the walk

-- the least output that they are lent
abbrev pub output_size : ℕ
output_size = 1452

abbrev pub sent_to : SdoClientConnection → Outgoing → Answer
sent_to c o =
    Answer.Sent (record { node = c.target_node_id; sequence = sequence_of o; command = command_of o })

-- the payload fills the start of the output; the rest is unchanged
abbrev pub walked_to : Walking → SdoClientManager → Bytes → Bytes → After
walked_to (refused r) m store output = record { done = refusing m r; store = store; output = output }
walked_to (through l) m store output =
    record { done = leaving l m.next_transaction_id Answer.Nothing; store = store; output = output }
walked_to (stopped k o l) m store output =
    record {
      done = leaving l m.next_transaction_id (sent_to (get_or l k blank) o);
      store = store;
      output = buffer_after (payload_of (room_in store (get_or l k blank)) o) output;
    }

unfoldable pub turn_of : Turn → SdoClientManager → Now → Bytes → Bytes → After
turn_of t m n store output =
    pick (eqb (length store) store_size)
    (pick (ltb (length output) output_size)
    (record { done = refusing m Refusal.BufferTooShort; store = store; output = output })
    (walked_to (walk_list t n (live m)) m store output))
    (record { done = refusing m Refusal.WrongStore; store = store; output = output })

-- ---- any call: a start and a reply are what they change, done, and look at no output

abbrev pub carried_out : SdoClientManager → Effect → Bytes → After
carried_out m e output = record { done = change_done m e.change; store = e.store; output = output }

unfoldable pub called : SdoClientManager → Bytes → Bytes → Call → After
called m store output (starts node job n) = carried_out m (start_of m node job n store) output
called m store output (turns t n) = turn_of t m n store output
called m store output (replies node seq cmd payload) = carried_out m (reply_from m node seq cmd payload store) output

-- ---- next_action_time: the least deadline, or none

abbrev pub sooner : Option ℕ → Option ℕ → Option ℕ
sooner None d = d
sooner (Some a) None = Some a
sooner (Some a) (Some b) = Some (min a b)

abbrev pub least_deadline : List SdoClientConnection → Option ℕ
least_deadline [] = None
least_deadline (c ∷ l) = sooner c.waiting.deadline (least_deadline l)
