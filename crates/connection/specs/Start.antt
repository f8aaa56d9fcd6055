-- Starts (document 01, "The connection"): a start sets Opening, send 0, last received 63, and deadline and retries. A DCF start loads the
-- first entry if readable; each load adds 1 to the transaction. Refusals 4, 5, 7, 8, in this order. A start on Closed acts as on new.
-- The mode that the start chooses is its job's (document 02, CR 2).
-- Job bytes are the whole DCF, or a write's data plus its 4 head bytes; they lie at the start of the room.
use Rattle.std.specs.Prelude.{ℕ, ◌+◌, min, Bool, true, false, ltb, leb, length, Option, Some, None, Result, Ok, Err}
use Rattle.codec.specs.declared.refusal.Refusal.{Refusal}
use Rattle.codec.specs.declared.request.ReadByIndexRequest.{ReadByIndexRequest}
use Rattle.codec.specs.declared.dcf.Transfer.{Transfer}
use Rattle.con_rec.specs.declared.SdoClientConnection.{SdoClientConnection}
use Rattle.laws.specs.Pick.{pick}
use Rattle.codec.specs.Bytes.{Bytes, placed}
use Rattle.codec.specs.Dcf.{count_of, dcf_step}
use Rattle.con_rec.specs.Deadline.{retries_of, deadline_of}
use Rattle.con_rec.specs.Record.{updated, next_transaction}
use Rattle.connection.specs.Types.{
  DcfCursor,
  DcfStep,
  Mode,
  Now,
  Refusal,
  SdoClientConnection,
  SdoClientConnectionState,
  SdoJob,
}

-- Idle or Closed, where a start is taken; any other state gets refusal 4
abbrev pub is_idle : SdoClientConnectionState → Bool
is_idle SdoClientConnectionState.Idle = true
is_idle SdoClientConnectionState.Opening = false
is_idle SdoClientConnectionState.Established = false
is_idle SdoClientConnectionState.UploadInit = false
is_idle SdoClientConnectionState.UploadInProgress = false
is_idle SdoClientConnectionState.DownloadInProgress = false
is_idle SdoClientConnectionState.Closed = true

-- the bytes that a job may have: the room's, of which no more than 2^32 - 1 are used
abbrev pub capacity : Bytes → ℕ
capacity room = min (length room) 4294967295

abbrev pub job_with : Mode → ℕ → DcfCursor → Option Transfer → Option ReadByIndexRequest → SdoJob
job_with mode size cursor loaded read =
    record {
      size = size;
      cursor = cursor;
      loaded = loaded;
      offset = 0;
      pending_read = read;
      uploaded = 0;
      delivered = 0;
      mode = mode;
    }

abbrev pub write_job : Mode → ℕ → ℕ → Bytes → SdoJob
write_job mode index sub bytes =
    job_with mode (length bytes) (record { at = 0; left = 0 })
    (Some (record { index = index; sub_index = sub; start = 0; len = length bytes }))
    None

abbrev pub read_job : Mode → ℕ → ℕ → SdoJob
read_job mode index sub = job_with mode 0 (record { at = 0; left = 0 }) None (Some (record { index = index; sub_index = sub }))

-- a DCF's job by what its first step finds
abbrev pub first_cursor : Bytes → DcfCursor
first_cursor dcf = record { at = 4; left = count_of dcf }

abbrev pub dcf_job : Mode → DcfStep → ℕ → DcfCursor → SdoJob
dcf_job mode (DcfStep.Entry entry next) size first =
    job_with mode size next
    (Some entry)
    None
dcf_job mode DcfStep.End size first = job_with mode size first None None
dcf_job mode DcfStep.Unreadable size first = job_with mode size first None None

abbrev pub dcf_transaction : DcfStep → ℕ → ℕ
dcf_transaction (DcfStep.Entry entry next) t = next_transaction t
dcf_transaction DcfStep.End t = t
dcf_transaction DcfStep.Unreadable t = t

-- started, or refusal 8
abbrev pub started_at : Option ℕ → SdoClientConnection → ℕ → Now → SdoJob → Result SdoClientConnection Refusal
started_at None c t n job = Err Refusal.DeadlineRange
started_at (Some deadline) c t n job =
    Ok
    (updated c SdoClientConnectionState.Opening t 0 63 job
    (record { last_sent_command = None; deadline = Some deadline; retries_left = retries_of n.retries })
    None)

unfoldable pub started : SdoClientConnection → ℕ → Now → SdoJob → Result SdoClientConnection Refusal
started c t n job = started_at (deadline_of n.time n.timeout) c t n job

unfoldable pub start_read : SdoClientConnection → ℕ → Now → Mode → ℕ → ℕ → Result SdoClientConnection Refusal
start_read c t n mode index sub =
    pick (is_idle c.state) (started c t n (read_job mode index sub)) (Err Refusal.Busy)

unfoldable pub start_write : SdoClientConnection → ℕ → Now → Mode → ℕ → ℕ → Bytes → Bytes → Result SdoClientConnection Refusal
start_write c t n mode index sub bytes room =
    pick (is_idle c.state)
    (pick (leb (4 + length bytes) (capacity room)) (started c t n (write_job mode index sub bytes)) (Err Refusal.NoRoom))
    (Err Refusal.Busy)

unfoldable pub start_dcf : SdoClientConnection → ℕ → Now → Mode → Bytes → Bytes → Result SdoClientConnection Refusal
start_dcf c t n mode dcf room =
    pick (is_idle c.state)
    (pick (ltb (length dcf) 4) (Err Refusal.DcfTooShort)
    (pick (leb (length dcf) (capacity room))
    (started c (dcf_transaction (dcf_step dcf (first_cursor dcf)) t) n (dcf_job mode (dcf_step dcf (first_cursor dcf)) (length dcf) (first_cursor dcf)))
    (Err Refusal.NoRoom)))
    (Err Refusal.Busy)

-- the room as a start leaves it: the job's bytes at its start, or as it was where the start was refused
abbrev pub room_with : Result SdoClientConnection Refusal → Bytes → Bytes → Bytes
room_with (Ok c) bytes room = placed room 0 bytes
room_with (Err r) bytes room = room
