-- The commands that a connection sends (document 01, "The connection"): which one it is, with its place, and the numbers that it goes out
-- with. Its sequence header and its command follow from these.
use Rattle.std.specs.Prelude.{ℕ, ◌-◌, Bool, true, false, Option, None}
use Rattle.codec.specs.declared.request.ReadByIndexRequest.{ReadByIndexRequest}
use Rattle.codec.specs.declared.sequence.SequenceLayerHeader.{SequenceLayerHeader}
use Rattle.codec.specs.declared.dcf.Transfer.{Transfer}
use Rattle.con_rec.specs.declared.SdoClientConnection.{SdoClientConnection}
use Rattle.con_rec.specs.declared.Outgoing.{Outgoing}
use Rattle.codec.specs.declared.command.CommandId.{CommandId}
use Rattle.codec.specs.declared.command.SdoCommand.{SdoCommand}
use Rattle.con_rec.specs.Parts.{total, part_length, first_kind, first_size, later_kind}
use Rattle.con_rec.specs.Types.{
  CommandId,
  Message,
  Mode,
  Outgoing,
  ReceiveConnState,
  SdoClientConnection,
  SdoCommand,
  Segmentation,
  SendConnState,
  SequenceLayerHeader,
  Transfer,
}

-- a command with the connection's numbers and its job's mode
abbrev pub outgoing : SdoClientConnection → Message → Outgoing
outgoing c message =
    record {
      receive = c.last_received_sequence_number;
      send = c.send_sequence_number;
      transaction = c.transaction_id;
      mode = c.job.mode;
      message = message;
    }

abbrev pub opening_command : SdoClientConnection → Outgoing
opening_command c = outgoing c Message.Opening

abbrev pub read_command : SdoClientConnection → ReadByIndexRequest → Outgoing
read_command c q = outgoing c (Message.Read q)

abbrev pub next_command : SdoClientConnection → Outgoing
next_command c = outgoing c Message.Next

-- the first part of a transfer, and a later one after the bytes that were sent
abbrev pub first_command : SdoClientConnection → Transfer → Outgoing
first_command c t = outgoing c (Message.First t)

abbrev pub later_command : SdoClientConnection → Transfer → ℕ → Outgoing
later_command c t sent = outgoing c (Message.Later t sent)

-- the abort command, 0x05040000
abbrev pub abort_command : SdoClientConnection → Outgoing
abort_command c = outgoing c (Message.Abort 0x05040000)

-- Opening: send state Initialization, receive state NoConnection. Except for the opening, states are AckRequest and ConnectionValid; an
-- abort's send state is NoConnection.
abbrev pub receive_state : Message → ReceiveConnState
receive_state Message.Opening = ReceiveConnState.NoConnection
receive_state (Message.Read q) = ReceiveConnState.ConnectionValid
receive_state Message.Next = ReceiveConnState.ConnectionValid
receive_state (Message.First t) = ReceiveConnState.ConnectionValid
receive_state (Message.Later t sent) = ReceiveConnState.ConnectionValid
receive_state (Message.Abort code) = ReceiveConnState.ConnectionValid

abbrev pub send_state : Message → SendConnState
send_state Message.Opening = SendConnState.Initialization
send_state (Message.Read q) = SendConnState.ConnectionValidAckRequest
send_state Message.Next = SendConnState.ConnectionValidAckRequest
send_state (Message.First t) = SendConnState.ConnectionValidAckRequest
send_state (Message.Later t sent) = SendConnState.ConnectionValidAckRequest
send_state (Message.Abort code) = SendConnState.NoConnection

abbrev pub sequence_of : Outgoing → SequenceLayerHeader
sequence_of o =
    record {
      receive_sequence_number = o.receive;
      receive_con = receive_state o.message;
      send_sequence_number = o.send;
      send_con = send_state o.message;
    }

abbrev pub command_with : ℕ → Bool → Segmentation → CommandId → ℕ → Option ℕ → SdoCommand
command_with transaction aborted kind id segment size =
    record {
      header =
          record {
            transaction_id = transaction;
            is_response = false;
            is_aborted = aborted;
            segmentation = kind;
            command_id = id;
            segment_size = segment;
          };
      data_size = size;
    }

-- Opening: empty Nil command. The read command: Expedited ReadByIndex (index, sub-index, 0). UploadInProgress: empty Segment ReadByIndex.
-- An entry or a write is sent by WriteByIndex, in parts, cut by the job's mode. The abort command: a Nil command with the abort mark and a code of 4 bytes.
abbrev pub command_by : Mode → Message → ℕ → SdoCommand
command_by mode Message.Opening transaction =
    command_with transaction false Segmentation.Expedited CommandId.Nil 0 None
command_by mode (Message.Read q) transaction =
    command_with transaction false Segmentation.Expedited CommandId.ReadByIndex 4 None
command_by mode Message.Next transaction =
    command_with transaction false Segmentation.Segment CommandId.ReadByIndex 0 None
command_by mode (Message.First t) transaction =
    command_with transaction false (first_kind mode (total t)) CommandId.WriteByIndex (part_length (total t)) (first_size mode (total t))
command_by mode (Message.Later t sent) transaction =
    command_with transaction false (later_kind (total t - sent)) CommandId.WriteByIndex (part_length (total t - sent)) None
command_by mode (Message.Abort code) transaction =
    command_with transaction true Segmentation.Expedited CommandId.Nil 4 None

abbrev pub command_of : Outgoing → SdoCommand
command_of o = command_by o.mode o.message o.transaction
