-- Jobs run by the calls themselves, from a new manager with a store of zeros: each ask is answered by the right reply. They show that the
-- theorems about taken starts and reported ends speak of something.
use Rattle.std.specs.Prelude.{ℕ, zero, suc, ◌*◌, ◌%◌, ◌≡◌, true, false, List, [], ◌∷◌, length, replicate, Option, None, map}
use Rattle.codec.specs.declared.sequence.ReceiveConnState.{ReceiveConnState}
use Rattle.codec.specs.declared.sequence.SendConnState.{SendConnState}
use Rattle.codec.specs.Bytes.{Bytes}
use Rattle.con_reply.specs.Delivery.{pieces}
use Rattle.con_reply.specs.Sent.{Sent}
use Rattle.manager.specs.Calls.{Call, Job, loads, reads, replies, starts, turns, writes}
use Rattle.man_table.specs.Table.{store_size}
use Rattle.theorems.specs.Figures.{entries_in}
use Rattle.theorems.specs.Run.{Event, Host, another, made, next, own, reached, starting}
use Rattle.theorems.specs.Story.{Log, follow, untold}
use Rattle.theorems.specs.Values.{handed}
use Rattle.theorems.specs.Types.{Answer, CommandId, Mode, Now, Reason, SdoCommand, Segmentation, SequenceLayerHeader, Turn}

abbrev pub early : Now
early = record { time = 0; timeout = None; retries = None }

-- so many seconds later; 15 is where the deadline is
abbrev pub seconds : ℕ → Now
seconds n = record { time = n * 1000000; timeout = None; retries = None }

abbrev pub late : Now
late = seconds 15

-- a reply to the command with the number `answers`, with its own number; both states are Initialization, which opens, and after the opening nobody looks at them
abbrev pub numbers : ℕ → ℕ → SequenceLayerHeader
numbers answers number =
    record {
      receive_sequence_number = answers % 64;
      receive_con = ReceiveConnState.Initialization;
      send_sequence_number = number % 64;
      send_con = SendConnState.Initialization;
    }

-- the k-th right reply
abbrev pub good : ℕ → SequenceLayerHeader
good k = numbers k k

abbrev pub nil : SdoCommand
nil =
    record {
      header =
          record {
            transaction_id = 0;
            is_response = false;
            is_aborted = false;
            segmentation = Segmentation.Expedited;
            command_id = CommandId.Nil;
            segment_size = 0;
          };
      data_size = None;
    }

abbrev pub rounds : ℕ → ℕ → List Event
rounds zero k = []
rounds (suc more) k =
    record { call = turns Turn.Asking early; lends = own; output = replicate 1452 0 }
    ∷ record { call = replies 5 (good k) nil []; lends = own; output = [] }
    ∷ rounds more (suc k)

-- how a job for node 5 comes out
pub record Out : Type 0 where
  pub answer : Answer
  pub got : List Bytes
  pub brought : Bytes
  pub outcome : Option Reason
  pub figure : ℕ

abbrev pub ran : List Event → Job → List Event → Out
ran earlier job later =
    let host : Host = reached (replicate 32768 0) earlier in
    let start : Event = starting 5 job early in
    let log : Log = follow (entries_in job) 5 untold (next host start) later in
    record {
      answer = (made host start).done.answer;
      got = pieces log.story.asks;
      brought = log.story.brought;
      outcome = log.outcome;
      figure = log.figure;
    }

abbrev pub worked : Job → Out
worked job = ran [] job (rounds 4 0)

-- a call with the host's own store
abbrev pub call : Call → Event
call x = record { call = x; lends = own; output = replicate 1452 0 }

-- earlier calls on the same node: a DCF without a count is refused and leaves an Idle connection, and a write comes to its end
abbrev pub used : List Event
used = call (starts 5 (loads Mode.Repository []) early) ∷ call (starts 5 (writes Mode.Repository 0x2101 0 (9 ∷ [])) early) ∷ rounds 2 0

-- a timeout repeat, a duplicate, calls that are refused (4, 1, 9), and the right replies; the duplicate has an empty Complete sent
abbrev pub disturbed : (length {A = ℕ} [] ≡ store_size → ⊥) → List Event
disturbed differs =
    call (turns Turn.Asking early)
    ∷ call (turns Turn.Ticking late)
    ∷ call (replies 5 (good 0) nil [])
    ∷ call (turns Turn.Asking late)
    ∷ call (replies 5 (numbers 1 0) nil [])
    ∷ call (starts 5 (reads Mode.Repository 0x2100 1) late)
    ∷ record { call = turns Turn.Asking late; lends = own; output = [] }
    ∷ record { call = turns Turn.Asking late; lends = another [] differs; output = replicate 1452 0 }
    ∷ call (turns Turn.Asking late)
    ∷ call (replies 5 (numbers 2 1) nil [])
    ∷ call (turns Turn.Asking late)
    ∷ call (replies 5 (numbers 3 2) nil [])
    ∷ []

-- a command of a kind
abbrev pub kind : Segmentation → SdoCommand
kind k =
    record {
      header =
          record {
            transaction_id = 0;
            is_response = true;
            is_aborted = false;
            segmentation = k;
            command_id = CommandId.ReadByIndex;
            segment_size = 0;
          };
      data_size = None;
    }

-- an upload of five bytes in segments; what comes with the Initiate is dropped
abbrev pub uploaded : List Event
uploaded =
    call (turns Turn.Asking early)
    ∷ call (replies 5 (good 0) nil [])
    ∷ call (turns Turn.Asking early)
    ∷ call (replies 5 (good 1) (kind Segmentation.Initiate) (9 ∷ 9 ∷ []))
    ∷ call (turns Turn.Asking early)
    ∷ call (replies 5 (good 2) (kind Segmentation.Segment) (1 ∷ 2 ∷ 3 ∷ []))
    ∷ call (turns Turn.Asking early)
    ∷ call (replies 5 (good 3) (kind Segmentation.Complete) (4 ∷ 5 ∷ []))
    ∷ []

-- what ask gave the node, by kind and length
abbrev pub kinds_of : List Sent → List (Segmentation × ℕ)
kinds_of l = map (λ (s : Sent). (s.kind, length s.payload)) l

abbrev pub sent_kinds : ℕ → List Event → Job → List Event → List (Segmentation × ℕ)
sent_kinds node earlier job later =
    let host : Host = reached (replicate 32768 0) earlier in
    kinds_of (follow (entries_in job) node untold (next host (starting node job early)) later).story.asks

-- a table of 1,450 bytes: its total is 1,454
abbrev pub straddling : Mode → Job
straddling mode = writes mode 0x2100 1 (replicate 1450 7)

-- nodes 5 and 6 are asked and answered by turns, an opening and two parts each
abbrev pub by_turns : ℕ → ℕ → List Event
by_turns zero k = []
by_turns (suc more) k =
    call (turns Turn.Asking early)
    ∷ call (turns Turn.Asking early)
    ∷ call (replies 5 (good k) nil [])
    ∷ call (replies 6 (good k) nil [])
    ∷ by_turns more (suc k)

-- what is handed out after each call
abbrev pub handed_by : Host → List Event → List (Option Bytes)
handed_by h [] = []
handed_by h (x ∷ xs) = handed (made h x).done.answer (next h x).store ∷ handed_by (next h x) xs

-- a node that answers nothing any more after the first entry: two retries, and the abort
abbrev pub silent : List Event
silent =
    call (turns Turn.Asking early)
    ∷ call (replies 5 (good 0) nil [])
    ∷ call (turns Turn.Asking early)
    ∷ call (replies 5 (good 1) nil [])
    ∷ call (turns Turn.Asking early)
    ∷ call (turns Turn.Ticking late)
    ∷ call (turns Turn.Ticking (seconds 30))
    ∷ call (turns Turn.Ticking (seconds 45))
    ∷ []
