-- The parts that asks give one after another, each command acknowledged before the next ask: they are to be `parts_of` the total.
use Rattle.std.specs.Prelude.{ℕ, zero, suc, ◌+◌, ◌%◌, List, [], ◌∷◌, ◌++◌, Option, Some, None, Result, Ok, Err}
use Rattle.codec.specs.declared.refusal.Refusal.{Refusal}
use Rattle.codec.specs.declared.sequence.SequenceLayerHeader.{SequenceLayerHeader}
use Rattle.con_rec.specs.declared.SdoClientConnection.{SdoClientConnection}
use Rattle.con_rec.specs.declared.Outgoing.{Outgoing}
use Rattle.con_rec.specs.declared.Step.{Step}
use Rattle.codec.specs.declared.command.SdoCommand.{SdoCommand}
use Rattle.codec.specs.Bytes.{Bytes}
use Rattle.con_rec.specs.PartsOf.{Part, part_of}
use Rattle.connection.specs.Types.{
  Now,
  ReceiveConnState,
  SdoClientConnection,
  SdoCommand,
  SendConnState,
  SequenceLayerHeader,
}
use Rattle.connection.specs.Ask.{ask_of}
use Rattle.con_reply.specs.Reply.{reply_of, replied}

-- the connection that an answer leaves; a refusal leaves it as it was
abbrev pub stepped_to : Result Step Refusal → SdoClientConnection → SdoClientConnection
stepped_to (Ok s) c = s.connection
stepped_to (Err r) c = c

abbrev pub taken_to : Result SdoClientConnection Refusal → SdoClientConnection → SdoClientConnection
taken_to (Ok d) c = d
taken_to (Err r) c = c

abbrev pub parts_in : Option Outgoing → List Part
parts_in (Some o) = part_of o ∷ []
parts_in None = []

abbrev pub parts_by : Result Step Refusal → List Part
parts_by (Ok s) = parts_in s.sends
parts_by (Err r) = []

-- the reply that acknowledges the command outstanding: its number, and the successor of the number last received
abbrev pub number_of : Option Outgoing → ℕ
number_of (Some o) = o.send
number_of None = 0

abbrev pub acknowledgement : SdoClientConnection → SequenceLayerHeader
acknowledgement c =
    record {
      receive_sequence_number = number_of c.waiting.last_sent_command;
      receive_con = ReceiveConnState.ConnectionValid;
      send_sequence_number = (c.last_received_sequence_number + 1) % 64;
      send_con = SendConnState.ConnectionValid;
    }

abbrev pub acknowledged : SdoCommand → Bytes → SdoClientConnection → SdoClientConnection
acknowledged cmd room c = taken_to (replied (reply_of (acknowledgement c) cmd [] c room)) c

-- what so many asks give one after another, each command acknowledged before the next ask
abbrev pub asks_give : ℕ → Now → SdoCommand → Bytes → SdoClientConnection → List Part
asks_give zero n cmd room c = []
asks_give (suc k) n cmd room c = parts_by (ask_of c n) ++ asks_give k n cmd room (acknowledged cmd room (stepped_to (ask_of c n) c))
