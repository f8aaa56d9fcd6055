-- Ask (document 01, "The connection"): what `get_pending_request` gives, state by state. Sending sets deadline and retries and steps the
-- send number modulo 64; a deadline that doesn't fit is refused.
use Rattle.std.specs.Prelude.{ℕ, ◌+◌, ◌-◌, ◌%◌, eqb, Option, Some, None, Result, Ok, Err}
use Rattle.codec.specs.declared.refusal.Refusal.{Refusal}
use Rattle.codec.specs.declared.request.ReadByIndexRequest.{ReadByIndexRequest}
use Rattle.codec.specs.declared.dcf.Transfer.{Transfer}
use Rattle.con_rec.specs.declared.SdoClientConnection.{SdoClientConnection}
use Rattle.con_rec.specs.declared.Outgoing.{Outgoing}
use Rattle.con_rec.specs.declared.Reason.{Reason}
use Rattle.con_rec.specs.declared.Step.{Step}
use Rattle.laws.specs.Pick.{pick}
use Rattle.con_rec.specs.Commands.{opening_command, read_command, next_command, first_command, later_command}
use Rattle.con_rec.specs.Deadline.{retries_of, deadline_of}
use Rattle.con_rec.specs.Parts.{total, part_length}
use Rattle.con_rec.specs.Record.{updated, ended}
use Rattle.connection.specs.Types.{
  Now,
  Outgoing,
  Reason,
  Refusal,
  SdoClientConnection,
  SdoClientConnectionState,
  SdoJob,
  Waiting,
}

-- nothing is given
abbrev pub quiet : SdoClientConnection → Result Step Refusal
quiet c = Ok (record { connection = c; sends = None })

-- a job with so many bytes of its transfer sent
abbrev pub with_offset : SdoJob → ℕ → SdoJob
with_offset j sent =
    record {
      size = j.size;
      cursor = j.cursor;
      loaded = j.loaded;
      offset = sent;
      pending_read = j.pending_read;
      uploaded = j.uploaded;
      delivered = j.delivered;
      mode = j.mode;
    }

abbrev pub waiting_for : Outgoing → ℕ → ℕ → Waiting
waiting_for o deadline retries =
    record { last_sent_command = Some o; deadline = Some deadline; retries_left = retries }

-- a command is given, in the state that it leads to, so many bytes of the transfer sent with it
abbrev pub given_at : Option ℕ → SdoClientConnection → Now → SdoClientConnectionState → ℕ → Outgoing → Result Step Refusal
given_at None c n s sent o = Err Refusal.DeadlineRange
given_at (Some deadline) c n s sent o =
    Ok
    (record {
      connection =
          updated c s c.transaction_id ((c.send_sequence_number + 1) % 64) c.last_received_sequence_number
          (with_offset c.job sent) (waiting_for o deadline (retries_of n.retries)) c.outcome;
      sends = Some o;
    })

unfoldable pub given : SdoClientConnection → Now → SdoClientConnectionState → ℕ → Outgoing → Result Step Refusal
given c n s sent o = given_at (deadline_of n.time n.timeout) c n s sent o

-- A write or DCF ends Complete when count entries were readable, else Cut: none is counted any more, or one is left.
abbrev pub finish : ℕ → Reason
finish left = pick (eqb left 0) Reason.Complete Reason.Cut

-- Established: first part of a loaded transfer, else the read command, else Closed and ended.
abbrev pub ask_read : Option ReadByIndexRequest → SdoClientConnection → Now → Result Step Refusal
ask_read (Some q) c n =
    given c n SdoClientConnectionState.UploadInit c.job.offset (read_command c q)
ask_read None c n = quiet (ended c (finish c.job.cursor.left))

abbrev pub ask_first : Option Transfer → SdoClientConnection → Now → Result Step Refusal
ask_first (Some t) c n =
    given c n SdoClientConnectionState.DownloadInProgress (part_length (total t)) (first_command c t)
ask_first None c n = ask_read c.job.pending_read c n

-- DownloadInProgress: next part, an empty Complete if nothing remains.
abbrev pub ask_later : Option Transfer → SdoClientConnection → Now → Result Step Refusal
ask_later (Some t) c n =
    given c n SdoClientConnectionState.DownloadInProgress (c.job.offset + part_length (total t - c.job.offset))
    (later_command c t c.job.offset)
ask_later None c n = quiet c

-- Opening: empty Nil command. UploadInProgress: empty Segment ReadByIndex. Other states: nothing.
abbrev pub ask_in : SdoClientConnectionState → SdoClientConnection → Now → Result Step Refusal
ask_in SdoClientConnectionState.Idle c n = quiet c
ask_in SdoClientConnectionState.Opening c n =
    given c n SdoClientConnectionState.Opening c.job.offset (opening_command c)
ask_in SdoClientConnectionState.Established c n = ask_first c.job.loaded c n
ask_in SdoClientConnectionState.UploadInit c n = quiet c
ask_in SdoClientConnectionState.UploadInProgress c n =
    given c n SdoClientConnectionState.UploadInProgress c.job.offset (next_command c)
ask_in SdoClientConnectionState.DownloadInProgress c n = ask_later c.job.loaded c n
ask_in SdoClientConnectionState.Closed c n = quiet c

-- Nothing if a command is outstanding.
abbrev pub ask_free : Option Outgoing → SdoClientConnection → Now → Result Step Refusal
ask_free (Some o) c n = quiet c
ask_free None c n = ask_in c.state c n

unfoldable pub ask_of : SdoClientConnection → Now → Result Step Refusal
ask_of c n = ask_free c.waiting.last_sent_command c n
