-- Reply (document 01, "The connection"): what `handle_response` makes of a connection and its room. Nothing outstanding, or a receive
-- number that is not that of the command outstanding: ignored. Then the command, deadline and retries are cleared. Send number equal to
-- last received: stop there. Not its successor modulo 64: ended, Sequence. Else it becomes last received. Then the abort mark, and then
-- by state. Refusal 7 undoes the whole reply.
use Rattle.std.specs.Prelude.{ℕ, ◌+◌, ◌%◌, Bool, true, false, ltb, leb, eqb, length, take, Option, Some, None, Result, Ok, Err}
use Rattle.codec.specs.declared.refusal.Refusal.{Refusal}
use Rattle.codec.specs.declared.sequence.SequenceLayerHeader.{SequenceLayerHeader}
use Rattle.codec.specs.declared.dcf.Transfer.{Transfer}
use Rattle.con_rec.specs.declared.SdoClientConnection.{SdoClientConnection}
use Rattle.con_rec.specs.declared.Outgoing.{Outgoing}
use Rattle.con_rec.specs.declared.Reason.{Reason}
use Rattle.codec.specs.declared.command.SdoCommand.{SdoCommand}
use Rattle.laws.specs.Pick.{pick}
use Rattle.codec.specs.Bytes.{Bytes, placed}
use Rattle.codec.specs.Dcf.{dcf_step}
use Rattle.codec.specs.Request.{abort_code}
use Rattle.con_rec.specs.Parts.{total}
use Rattle.con_rec.specs.Record.{updated, ended, next_transaction, nothing_waits}
use Rattle.connection.specs.Types.{
  DcfCursor,
  DcfStep,
  Reason,
  ReceiveConnState,
  Refusal,
  SdoClientConnection,
  SdoClientConnectionState,
  SdoCommand,
  SdoJob,
  Segmentation,
  SendConnState,
  SequenceLayerHeader,
  Transfer,
}
use Rattle.con_reply.specs.declared.reply.Decision.{Decision}

-- the command, deadline and retries cleared, and a number last received
abbrev pub cleared : SdoClientConnection → ℕ → SdoClientConnection
cleared c last =
    updated c c.state c.transaction_id c.send_sequence_number last c.job nothing_waits c.outcome

abbrev pub in_state : SdoClientConnection → SdoClientConnectionState → SdoClientConnection
in_state c s =
    updated c s c.transaction_id c.send_sequence_number c.last_received_sequence_number c.job
    c.waiting c.outcome

abbrev pub with_job : SdoClientConnection → SdoJob → SdoClientConnection
with_job c job =
    updated c c.state c.transaction_id c.send_sequence_number c.last_received_sequence_number job
    c.waiting c.outcome

-- one transfer more is delivered; the figure has 32 bits, and no job has as many entries as that
abbrev pub one_more : ℕ → ℕ
one_more n = pick (ltb n 4294967295) (n + 1) n

abbrev pub delivered_one : SdoJob → SdoJob
delivered_one j =
    record {
      size = j.size;
      cursor = j.cursor;
      loaded = j.loaded;
      offset = j.offset;
      pending_read = j.pending_read;
      uploaded = j.uploaded;
      delivered = one_more j.delivered;
      mode = j.mode;
    }

abbrev pub with_transfer : SdoJob → Transfer → DcfCursor → SdoJob
with_transfer j t next =
    record {
      size = j.size;
      cursor = next;
      loaded = Some t;
      offset = 0;
      pending_read = j.pending_read;
      uploaded = j.uploaded;
      delivered = j.delivered;
      mode = j.mode;
    }

-- DownloadInProgress with everything sent: load the next entry and go to Established, or end.
abbrev pub reply_next : DcfStep → SdoClientConnection → SdoClientConnection
reply_next (DcfStep.Entry entry next) c =
    updated c SdoClientConnectionState.Established (next_transaction c.transaction_id) c.send_sequence_number
    c.last_received_sequence_number
    (with_transfer (delivered_one c.job) entry next)
    c.waiting c.outcome
reply_next DcfStep.End c = ended (with_job c (delivered_one c.job)) Reason.Complete
reply_next DcfStep.Unreadable c = ended (with_job c (delivered_one c.job)) Reason.Cut

abbrev pub reply_sent : Option Transfer → Bytes → SdoClientConnection → SdoClientConnection
reply_sent (Some t) room c =
    pick (leb (total t) c.job.offset) (reply_next (dcf_step (take c.job.size room) c.job.cursor) c) c
reply_sent None room c = c

-- an upload with so many bytes
abbrev pub with_upload : SdoJob → ℕ → SdoJob
with_upload j n =
    record {
      size = j.size;
      cursor = j.cursor;
      loaded = j.loaded;
      offset = j.offset;
      pending_read = j.pending_read;
      uploaded = n;
      delivered = j.delivered;
      mode = j.mode;
    }

abbrev pub with_bytes : SdoClientConnection → ℕ → SdoClientConnection
with_bytes c n = with_job c (with_upload c.job n)

-- n bytes are put behind the first `from` of the room, or refusal 7 where they go past it
unfoldable pub room_for : ℕ → ℕ → Bytes → Option ℕ
room_for from n room = pick (leb (from + n) (length room)) (Some (from + n)) None

abbrev pub stored_last : Option ℕ → SdoClientConnection → ℕ → Decision
stored_last (Some end) c from = Decision.Stores (ended (with_bytes c end) Reason.Complete) from
stored_last None c from = Decision.NoRoom

abbrev pub stored_more : Option ℕ → SdoClientConnection → ℕ → Decision
stored_more (Some end) c from = Decision.Stores (with_bytes c end) from
stored_more None c from = Decision.NoRoom

-- UploadInit: Expedited stores the payload and ends Complete; Initiate empties the data and goes to UploadInProgress; else BadSegment.
abbrev pub reply_first : Segmentation → SdoClientConnection → ℕ → Bytes → Decision
reply_first Segmentation.Expedited c n room = stored_last (room_for 0 n room) c 0
reply_first Segmentation.Initiate c n room =
    Decision.Keeps (in_state (with_bytes c 0) SdoClientConnectionState.UploadInProgress)
reply_first Segmentation.Segment c n room = Decision.Keeps (ended c Reason.BadSegment)
reply_first Segmentation.Complete c n room = Decision.Keeps (ended c Reason.BadSegment)

-- UploadInProgress: Segment or Complete appends, Complete ends; else BadSegment.
abbrev pub reply_more : Segmentation → SdoClientConnection → ℕ → Bytes → Decision
reply_more Segmentation.Expedited c n room = Decision.Keeps (ended c Reason.BadSegment)
reply_more Segmentation.Initiate c n room = Decision.Keeps (ended c Reason.BadSegment)
reply_more Segmentation.Segment c n room = stored_more (room_for c.job.uploaded n room) c c.job.uploaded
reply_more Segmentation.Complete c n room = stored_last (room_for c.job.uploaded n room) c c.job.uploaded

-- Opening: both states Initialization gives Established, else OpenRefused.
abbrev pub receive_initializes : ReceiveConnState → Bool
receive_initializes ReceiveConnState.NoConnection = false
receive_initializes ReceiveConnState.Initialization = true
receive_initializes ReceiveConnState.ConnectionValid = false
receive_initializes ReceiveConnState.ErrorResponse = false

abbrev pub send_initializes : SendConnState → Bool
send_initializes SendConnState.NoConnection = false
send_initializes SendConnState.Initialization = true
send_initializes SendConnState.ConnectionValid = false
send_initializes SendConnState.ConnectionValidAckRequest = false

abbrev pub reply_opening : SequenceLayerHeader → SdoClientConnection → SdoClientConnection
reply_opening seq c =
    pick (receive_initializes seq.receive_con)
    (pick (send_initializes seq.send_con)
    (in_state c SdoClientConnectionState.Established)
    (ended c Reason.OpenRefused))
    (ended c Reason.OpenRefused)

-- By state. A reply in a state that has no command outstanding closes the connection, as in 000; no call comes to that.
abbrev pub reply_in : SdoClientConnectionState → SequenceLayerHeader → Segmentation → SdoClientConnection → ℕ → Bytes → Decision
reply_in SdoClientConnectionState.Idle seq kind c n room = Decision.Keeps (ended c Reason.Sequence)
reply_in SdoClientConnectionState.Opening seq kind c n room = Decision.Keeps (reply_opening seq c)
reply_in SdoClientConnectionState.Established seq kind c n room = Decision.Keeps (ended c Reason.Sequence)
reply_in SdoClientConnectionState.UploadInit seq kind c n room = reply_first kind c n room
reply_in SdoClientConnectionState.UploadInProgress seq kind c n room = reply_more kind c n room
reply_in SdoClientConnectionState.DownloadInProgress seq kind c n room = Decision.Keeps (reply_sent c.job.loaded room c)
reply_in SdoClientConnectionState.Closed seq kind c n room = Decision.Keeps (ended c Reason.Sequence)

-- Abort mark: ended, PeerAborted, with the code, or with none if under 4 payload bytes.
abbrev pub reply_taken : SequenceLayerHeader → SdoCommand → Bytes → SdoClientConnection → Bytes → Decision
reply_taken seq cmd payload c room =
    pick cmd.header.is_aborted
    (Decision.Keeps (ended c (Reason.PeerAborted (abort_code payload))))
    (reply_in c.state seq cmd.header.segmentation c (length payload) room)

abbrev pub reply_heard : SequenceLayerHeader → SdoCommand → Bytes → SdoClientConnection → Bytes → Decision
reply_heard seq cmd payload c room =
    pick (eqb seq.send_sequence_number c.last_received_sequence_number)
    (Decision.Keeps (cleared c c.last_received_sequence_number))
    (pick (eqb seq.send_sequence_number ((c.last_received_sequence_number + 1) % 64))
    (reply_taken seq cmd payload (cleared c seq.send_sequence_number) room)
    (Decision.Keeps (ended c Reason.Sequence)))

abbrev pub reply_to : Option Outgoing → SequenceLayerHeader → SdoCommand → Bytes → SdoClientConnection → Bytes → Decision
reply_to None seq cmd payload c room = Decision.Keeps c
reply_to (Some o) seq cmd payload c room =
    pick (eqb seq.receive_sequence_number o.send)
    (reply_heard seq cmd payload c room)
    (Decision.Keeps c)

unfoldable pub reply_of : SequenceLayerHeader → SdoCommand → Bytes → SdoClientConnection → Bytes → Decision
reply_of seq cmd payload c room = reply_to c.waiting.last_sent_command seq cmd payload c room

-- the answer, and the room as it is left
abbrev pub replied : Decision → Result SdoClientConnection Refusal
replied (Decision.Keeps c) = Ok c
replied (Decision.Stores c from) = Ok c
replied Decision.NoRoom = Err Refusal.NoRoom

abbrev pub room_after : Decision → Bytes → Bytes → Bytes
room_after (Decision.Keeps c) payload room = room
room_after (Decision.Stores c from) payload room = placed room from payload
room_after Decision.NoRoom payload room = room
