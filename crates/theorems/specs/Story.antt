-- What the calls tell of one node's job since its start: what ask gave the node, which command waits for its reply, how many entries were wholly sent
-- and then answered, and what a read brought. It is told by the calls, their answers, the output and the payloads of replies alone, and by no field
-- of a connection.
use Rattle.std.specs.Prelude.{ℕ, ◌+◌, ◌%◌, Bool, true, false, List, [], ◌∷◌, ◌++◌, eqb, length, take, Option, Some, None, find}
use Rattle.laws.specs.Pick.{pick}
use Rattle.codec.specs.Bytes.{Bytes}
use Rattle.con_reply.specs.Delivery.{is_opening, pieces}
use Rattle.con_reply.specs.Sent.{Sent}
use Rattle.con_reply.specs.Uploaded.{joined}
use Rattle.manager.specs.Calls.{After, Call, replies, starts, turns}
use Rattle.theorems.specs.Run.{Event, Host, made, next, reported}
use Rattle.theorems.specs.Types.{Answer, End, Reason, SdoCommand, Segmentation, SequenceLayerHeader, Turn}

-- ---- what a call gives a node: a command, its payload from the start of the output, as long as the segment size says
abbrev pub Gave : Type 0
Gave = Option (SequenceLayerHeader × SdoCommand × Bytes)

abbrev pub gave_to : ℕ → Bytes → Answer → Gave
gave_to node output Answer.Nothing = None
gave_to node output (Answer.Sent s) =
    pick (eqb s.node node) (Some (s.sequence, s.command, take s.command.header.segment_size output)) None
gave_to node output (Answer.Value part) = None
gave_to node output (Answer.Refused r) = None

-- ---- the story of a job
-- the command that waits for its reply
abbrev pub Awaits : Type 0
Awaits = Option (SequenceLayerHeader × SdoCommand)

pub record Story : Type 0 where
  pub asks : List Sent
  pub awaits : Awaits
  pub delivered : ℕ
  pub brought : Bytes

-- at its start
abbrev pub untold : Story
untold = record { asks = []; awaits = None; delivered = 0; brought = [] }

-- ask gave a command
abbrev pub asked : Story → Gave → Story
asked s None = s
asked s (Some (seq, cmd, payload)) =
    record {
      asks =
          s.asks
          ++ (record { id = cmd.header.command_id; kind = cmd.header.segmentation; payload = payload } ∷ []);
      awaits = Some (seq, cmd);
      delivered = s.delivered;
      brought = s.brought;
    }

-- The last of the pieces that were sent is as long as its entry: the entry was wholly sent.
abbrev pub wholly : List Bytes → List Bytes → Bool
wholly entries [] = false
wholly [] (p ∷ ps) = false
wholly (e ∷ es) (p ∷ []) = eqb (length p) (length e)
wholly (e ∷ es) (p ∷ q ∷ ps) = wholly es (q ∷ ps)

-- answered: no command waits any more
abbrev pub answered : Story → Story
answered s = record { asks = s.asks; awaits = None; delivered = s.delivered; brought = s.brought }

-- a refused reply has not happened
abbrev pub unless_refused : Answer → Story → Story → Story
unless_refused Answer.Nothing before after = after
unless_refused (Answer.Sent s) before after = after
unless_refused (Answer.Value part) before after = after
unless_refused (Answer.Refused r) before after = before

-- ---- the log of a job: its story, how it stands, and the delivered figure of its end
pub record Log : Type 0 where
  pub story : Story
  pub outcome : Option Reason
  pub figure : ℕ

-- the end that a call reports of the node; the log closes with it, and else goes on
abbrev pub end_for : ℕ → List End → Option End
end_for node es = find (λ (e : End). eqb e.node node) es

abbrev pub unless_ended : Option End → Story → Log → Log
unless_ended None s on = on
unless_ended (Some e) s on = record { story = s; outcome = Some e.reason; figure = e.delivered }

module _ (entries : List Bytes) where
  -- a reply was accepted: the opening's brings nothing
  abbrev pub accepted : Bool → Story → Segmentation → Bytes → Story
  accepted true s kind payload = answered s
  accepted false s kind payload =
      record {
        asks = s.asks;
        awaits = None;
        delivered = pick (wholly entries (pieces s.asks)) (s.delivered + 1) s.delivered;
        brought = joined kind s.brought payload;
      }

  -- A reply whose receive number is not that of the command outstanding is ignored. One is accepted whose send number is the successor, modulo 64, of
  -- the number that the command acknowledged, and which has no abort mark.
  abbrev pub heard_by : Awaits → Story → SequenceLayerHeader → SdoCommand → Bytes → Story
  heard_by None s seq cmd payload = s
  heard_by (Some (h, c)) s seq cmd payload =
      pick (eqb seq.receive_sequence_number h.send_sequence_number)
      (pick (eqb seq.send_sequence_number ((h.receive_sequence_number + 1) % 64))
      (pick cmd.header.is_aborted (answered s)
      (accepted (is_opening c.header.command_id) s cmd.header.segmentation payload))
      (answered s))
      s

  abbrev pub heard : Story → SequenceLayerHeader → SdoCommand → Bytes → Story
  heard s seq cmd payload = heard_by s.awaits s seq cmd payload

  module _ (node : ℕ) where
    -- one call more: a start for the node itself is refused while its job runs, and tick's repeats and aborts tell nothing new
    abbrev pub told_by : Story → Call → Answer → Gave → Story
    told_by s (starts k job n) x g = s
    told_by s (turns Turn.Asking n) x g = asked s g
    told_by s (turns Turn.Ticking n) x g = s
    told_by s (replies k seq cmd payload) x g = pick (eqb k node) (unless_refused x s (heard s seq cmd payload)) s

    abbrev pub told : Story → Call → After → Story
    told s x a = told_by s x a.done.answer (gave_to node a.output a.done.answer)

    abbrev pub follow : Story → Host → List Event → Log
    follow s h [] = record { story = s; outcome = None; figure = 0 }
    follow s h (x ∷ xs) =
        let a : After = made h x in
        let t : Story = told s x.call a in
        unless_ended (end_for node (reported a)) t (follow t (next h x) xs)
