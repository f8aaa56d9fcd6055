-- What a record asks for (document 01, "Replay"): a call of the manager, or an answer of the replay's own; and what comes of it. Operations 1, 3 and 4
-- use what was gathered plus their own data and then empty it, refused by the library or not. A BadRecord leaves it.
use Rattle.std.specs.Prelude.{ℕ, ◌/◌, ◌%◌, [], ◌∷◌, ◌++◌, ltb, length, take, None, Result, Ok, Err}
use Rattle.codec.specs.declared.refusal.Refusal.{Refusal}
use Rattle.codec.specs.declared.sequence.SequenceLayerHeader.{SequenceLayerHeader}
use Rattle.codec.specs.declared.command.CommandId.{CommandId}
use Rattle.codec.specs.declared.command.SdoCommand.{SdoCommand}
use Rattle.replay_record.specs.declared.record.Record.{Record}
use Rattle.replay_record.specs.declared.record.Operation.{Operation}
use Rattle.laws.specs.Pick.{pick}
use Rattle.codec.specs.Bytes.{Bytes, placed}
use Rattle.codec.specs.Command.{header_at}
use Rattle.codec.specs.Sequence.{header_of}
use Rattle.manager.specs.Calls.{After, Call, called, loads, reads, replies, starts, turns, writes}
use Rattle.manager.specs.Change.{answering, same}
use Rattle.manager.specs.Plan.{Planned, plan_change, plan_of}
use Rattle.replay_record.specs.Gather.{already_gathered, gather_size, gathered_with, more_gathered}
use Rattle.replay_record.specs.Record.{own_data, record_read}
use Rattle.replay_record.specs.Types.{
  Answer,
  Choices,
  CommandId,
  Mode,
  Now,
  Operation,
  Record,
  RecordPlan,
  Refusal,
  SdoClientManager,
  SdoCommand,
  SequenceLayerHeader,
  Use,
}

pub data Request : Type 0 where
  calls : Call → Request
  answers : Answer → Request

-- a request, and what is gathered after it: how many bytes, and the buffer that they lie in
pub record Asked : Type 0 where
  pub request : Request
  pub gathered : ℕ
  pub gather : Bytes

-- the bytes that operations 1, 3 and 4 use
abbrev pub used_bytes : Bytes → ℕ → Bytes → Bytes
used_bytes gather already own = take already gather ++ own

-- In a reply, bytes 2-3 are sequence octets 0 and 1, command Nil, no data size.
abbrev pub reply_header : ℕ → SequenceLayerHeader
reply_header index = header_of (index % 256) (index / 256)

-- the bytes of a Nil command of which only the flags are read
abbrev pub flagged : ℕ → Bytes
flagged flags = 0 ∷ 0 ∷ flags ∷ 0 ∷ 0 ∷ 0 ∷ 0 ∷ 0 ∷ 0 ∷ 0 ∷ 0 ∷ 0 ∷ []

abbrev pub reply_command : ℕ → SdoCommand
reply_command flags = record { header = header_at (flagged flags) CommandId.Nil; data_size = None }

-- the call with those bytes
abbrev pub use_call : Use → Mode → Record → Now → Bytes → Call
use_call Use.Write mode r n bytes = starts r.node (writes mode r.index r.sub_index bytes) n
use_call Use.Dcf mode r n bytes = starts r.node (loads mode bytes) n
use_call Use.Reply mode r n bytes = replies r.node (reply_header r.index) (reply_command r.flags) bytes

-- an operation; a start is in the mode that is chosen for all records
abbrev pub operation_asks : Operation → Mode → Record → ℕ → Now → Bytes → Bytes → Asked
operation_asks (Operation.Uses u) mode r already n own gather =
    record { request = calls (use_call u mode r n (used_bytes gather already own)); gathered = 0; gather = placed gather already own }
operation_asks Operation.Read mode r already n own gather =
    record { request = calls (starts r.node (reads mode r.index r.sub_index) n); gathered = already; gather = gather }
operation_asks (Operation.Turns t) mode r already n own gather =
    record { request = calls (turns t n); gathered = already; gather = gather }
operation_asks Operation.Gather mode r already n own gather =
    record {
      request = answers (gathered_with already (length own)).answer;
      gathered = (gathered_with already (length own)).gathered;
      gather = more_gathered gather already own;
    }

-- the time of a record, with the two parameters
abbrev pub when_of : Record → Choices → Now
when_of r choices = record { time = r.time; timeout = choices.timeout; retries = choices.retries }

-- a refusal of the replay's own leaves what was gathered
abbrev pub refuses_with : Refusal → ℕ → Bytes → Asked
refuses_with why already gather = record { request = answers (Answer.Refused why); gathered = already; gather = gather }

abbrev pub read_asks : Result Record Refusal → ℕ → Bytes → Choices → Bytes → Asked
read_asks (Err why) already b choices gather = refuses_with why already gather
read_asks (Ok r) already b choices gather =
    operation_asks r.operation choices.mode r already (when_of r choices) (own_data b r) gather

-- A gather buffer under 4,112 bytes is refused with 1.
unfoldable pub record_asks : ℕ → Bytes → Choices → Bytes → Asked
record_asks gathered b choices gather =
    pick (ltb (length gather) gather_size)
    (refuses_with Refusal.BufferTooShort (already_gathered gathered) gather)
    (read_asks (record_read b) (already_gathered gathered) b choices gather)

-- ---- what comes of a request: the call; or the answer, with manager, store and output as they were

abbrev pub granted : SdoClientManager → Bytes → Bytes → Request → After
granted m store output (calls x) = called m store output x
granted m store output (answers a) = record { done = answering m a; store = store; output = output }

-- ---- the same as a plan, for a loop that keeps the manager where it is

abbrev pub request_plan : SdoClientManager → Bytes → Bytes → Request → Planned
request_plan m store output (calls x) = plan_of m store output x
request_plan m store output (answers a) = plan_change (same a) store output

-- a record's plan, and the store, the gather's bytes and the output ahead of it
pub record AskedPlan : Type 0 where
  pub plan : RecordPlan
  pub store : Bytes
  pub gather : Bytes
  pub output : Bytes

abbrev pub asked_plan : SdoClientManager → Bytes → Bytes → Asked → AskedPlan
asked_plan m store output x =
    record {
      plan = record { plan = (request_plan m store output x.request).plan; gathered = x.gathered };
      store = (request_plan m store output x.request).store;
      gather = x.gather;
      output = (request_plan m store output x.request).output;
    }
