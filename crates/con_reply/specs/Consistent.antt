-- What holds of every connection that the calls make, with its room: numbers below 64, a command outstanding only in the state that waits for its
-- reply, this command's transfer and the loaded one within the job and the job within the room, one loaded in DownloadInProgress, what was uploaded
-- within the room, and an end exactly in Closed.
use Rattle.std.specs.Prelude.{ℕ, ◌+◌, ◌≤◌, ◌<◌, ◌≡◌, Bool, true, false, length, Option, Some, None}
use Rattle.codec.specs.declared.dcf.Transfer.{Transfer}
use Rattle.con_rec.specs.declared.Outgoing.{Outgoing}
use Rattle.con_rec.specs.declared.Reason.{Reason}
use Rattle.codec.specs.Bytes.{Bytes}
use Rattle.con_rec.specs.declared.Message.{Message}
use Rattle.connection.specs.Types.{SdoClientConnection, SdoClientConnectionState}

-- the state in which a command's reply is waited for; an abort's is not
abbrev pub awaiting : Message → SdoClientConnectionState
awaiting Message.Opening = SdoClientConnectionState.Opening
awaiting (Message.Read q) = SdoClientConnectionState.UploadInit
awaiting Message.Next = SdoClientConnectionState.UploadInProgress
awaiting (Message.First t) = SdoClientConnectionState.DownloadInProgress
awaiting (Message.Later t sent) = SdoClientConnectionState.DownloadInProgress
awaiting (Message.Abort code) = SdoClientConnectionState.Closed

abbrev pub is_closed : SdoClientConnectionState → Bool
is_closed SdoClientConnectionState.Idle = false
is_closed SdoClientConnectionState.Opening = false
is_closed SdoClientConnectionState.Established = false
is_closed SdoClientConnectionState.UploadInit = false
is_closed SdoClientConnectionState.UploadInProgress = false
is_closed SdoClientConnectionState.DownloadInProgress = false
is_closed SdoClientConnectionState.Closed = true

abbrev pub is_downloading : SdoClientConnectionState → Bool
is_downloading SdoClientConnectionState.Idle = false
is_downloading SdoClientConnectionState.Opening = false
is_downloading SdoClientConnectionState.Established = false
is_downloading SdoClientConnectionState.UploadInit = false
is_downloading SdoClientConnectionState.UploadInProgress = false
is_downloading SdoClientConnectionState.DownloadInProgress = true
is_downloading SdoClientConnectionState.Closed = false

abbrev pub is_ended : Option Reason → Bool
is_ended None = false
is_ended (Some why) = true

abbrev pub WaitsIn : SdoClientConnectionState → Option Outgoing → Type 0
WaitsIn s (Some o) = s ≡ awaiting o.message
WaitsIn s None = Unit {0}

abbrev pub LiesIn : ℕ → Option Transfer → Type 0
LiesIn size (Some t) = t.start + t.len ≤ size
LiesIn size None = Unit {0}

-- the transfer that a command is a part of lies within the job
abbrev pub PartOf : ℕ → Message → Type 0
PartOf size Message.Opening = Unit {0}
PartOf size (Message.Read q) = Unit {0}
PartOf size Message.Next = Unit {0}
PartOf size (Message.First t) = t.start + t.len ≤ size
PartOf size (Message.Later t sent) = t.start + t.len ≤ size
PartOf size (Message.Abort code) = Unit {0}

abbrev pub WaitsWith : ℕ → Option Outgoing → Type 0
WaitsWith size (Some o) = PartOf size o.message
WaitsWith size None = Unit {0}

-- nothing loaded is never DownloadInProgress
abbrev pub LoadsIn : SdoClientConnectionState → Option Transfer → Type 0
LoadsIn s (Some t) = Unit {0}
LoadsIn s None = is_downloading s ≡ false

pub record Consistent (c : SdoClientConnection) (room : Bytes) : Type 0 where
  pub send : c.send_sequence_number < 64
  pub last : c.last_received_sequence_number < 64
  pub waits : WaitsIn c.state c.waiting.last_sent_command
  pub repeats : WaitsWith c.job.size c.waiting.last_sent_command
  pub within : LiesIn c.job.size c.job.loaded
  pub held : c.job.size ≤ length room
  pub loads : LoadsIn c.state c.job.loaded
  pub brings : c.job.uploaded ≤ length room
  pub ends : is_ended c.outcome ≡ is_closed c.state
