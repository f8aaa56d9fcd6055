-- What ask sends: a command as it goes out, its payload read from the room at that moment. What tick gives is a timeout repeat or an abort
-- (`TickGives` in crates/theorems).
use Rattle.std.specs.Prelude.{◌≤◌, ◌≡◌, length, Option, Some, None, Result, Ok, Err}
use Rattle.codec.specs.declared.refusal.Refusal.{Refusal}
use Rattle.con_rec.specs.declared.Step.{Step}
use Rattle.codec.specs.Bytes.{Bytes}
use Rattle.con_rec.specs.Commands.{command_of}
use Rattle.con_rec.specs.Parts.{most}
use Rattle.con_rec.specs.Payload.{payload_of}
use Rattle.connection.specs.Types.{CommandId, Outgoing, Segmentation}

-- a command that was sent
pub record Sent : Type 0 where
  pub id : CommandId
  pub kind : Segmentation
  pub payload : Bytes

abbrev pub sent_of : Bytes → Outgoing → Sent
sent_of room o =
    record {
      id = (command_of o).header.command_id;
      kind = (command_of o).header.segmentation;
      payload = payload_of room o;
    }

-- a payload is as long as its command's segment size says, at most 1452 bytes
abbrev pub Sized : Bytes → Option Outgoing → Type 0
Sized room (Some o) =
    (length (payload_of room o) ≡ (command_of o).header.segment_size) × ((command_of o).header.segment_size ≤ most)
Sized room None = Unit {0}

abbrev pub AllSized : Bytes → Result Step Refusal → Type 0
AllSized room (Ok s) = Sized room s.sends
AllSized room (Err r) = Unit {0}
