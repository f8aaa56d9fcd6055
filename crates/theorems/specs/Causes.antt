-- Each refusal of each call of the manager, given exactly when document 01's column says ("Numbers that refuse"), in the order of its
-- checks: starts 9, 6, 4, 5, 7, 8; tick and ask 9, 1, then the walk's 8; a reply 9, then 7.
use Rattle.std.specs.Prelude.{ℕ, ◌+◌, ◌%◌, ◌<◌, ◌≡◌, false, List, [], ◌∷◌, ltb, eqb, length, Option, Some, None, IsSomeAnd}
use Rattle.codec.specs.declared.request.ReadByIndexRequest.{ReadByIndexRequest}
use Rattle.laws.specs.Checks.{Check, First, check}
use Rattle.laws.specs.Pick.{pick}
use Rattle.codec.specs.Bytes.{Bytes}
use Rattle.con_rec.specs.Deadline.{due, latest}
use Rattle.connection.specs.Start.{is_idle}
use Rattle.manager.specs.Calls.{Call, Job, loads, output_size, reads, replies, starts, turns, writes}
use Rattle.man_table.specs.Table.{find_in, live, room_size, store_size, held_at}
use Rattle.theorems.specs.Run.{Event, Host, lent_store, made, reached}
use Rattle.theorems.specs.Types.{
  Answer,
  Now,
  Outgoing,
  Refusal,
  SdoClientConnection,
  SdoClientConnectionState,
  SdoClientManager,
  SdoCommand,
  Segmentation,
  SequenceLayerHeader,
  Transfer,
  Turn,
}

-- ---- causes of all calls
abbrev pub WrongStore : Bytes → Type 0
WrongStore store = length store ≡ store_size → ⊥

-- a deadline to be set, time + timeout × 1000, exceeds 2^64 - 1
abbrev pub OutOfRange : Now → Type 0
OutOfRange n = latest < due n.time n.timeout

-- ---- starts
-- a node not held while eight are
abbrev pub FullAs : Option ℕ → SdoClientManager → Type 0
FullAs (Some k) m = ⊥
FullAs None m = length (live m) ≡ 8

-- on a connection neither Idle nor Closed
abbrev pub BusyAs : Option ℕ → SdoClientManager → Type 0
BusyAs found m = IsSomeAnd found (λ (k : ℕ). is_idle (held_at m k).state ≡ false)

-- DCF under 4 bytes
abbrev pub Short : Job → Type 0
Short (writes mode index sub bytes) = ⊥
Short (reads mode index sub) = ⊥
Short (loads mode dcf) = length dcf < 4

-- Job bytes are the whole DCF, or a write's data plus its 4 head bytes.
abbrev pub job_bytes : Job → ℕ
job_bytes (writes mode index sub bytes) = 4 + length bytes
job_bytes (reads mode index sub) = 0
job_bytes (loads mode dcf) = length dcf

abbrev pub job_checks : Job → Now → List (Check Refusal)
job_checks job n =
    check Refusal.DcfTooShort (Short job)
    ∷ check Refusal.NoRoom (room_size < job_bytes job)
    ∷ check Refusal.DeadlineRange (OutOfRange n)
    ∷ []

abbrev pub start_checks : SdoClientManager → Bytes → ℕ → Job → Now → List (Check Refusal)
start_checks m store node job n =
    check Refusal.WrongStore (WrongStore store)
    ∷ check Refusal.TableFull (FullAs (find_in node (live m)) m)
    ∷ check Refusal.Busy (BusyAs (find_in node (live m)) m)
    ∷ job_checks job n

-- ---- tick and ask: what a connection does at its turn. It passes, giving no command and setting no deadline; it sets a deadline; or it
-- gives a command with none, the abort, where the walk stops.
pub data Does : Type 0 where
  passes : Does
  sets : Does
  stops : Does

abbrev pub ask_reads : Option ReadByIndexRequest → Does
ask_reads (Some q) = sets
ask_reads None = passes

abbrev pub ask_loaded : Option Transfer → Does → Does
ask_loaded (Some t) other = sets
ask_loaded None other = other

abbrev pub ask_state : SdoClientConnectionState → SdoClientConnection → Does
ask_state SdoClientConnectionState.Idle c = passes
ask_state SdoClientConnectionState.Opening c = sets
ask_state SdoClientConnectionState.Established c = ask_loaded c.job.loaded (ask_reads c.job.pending_read)
ask_state SdoClientConnectionState.UploadInit c = passes
ask_state SdoClientConnectionState.UploadInProgress c = sets
ask_state SdoClientConnectionState.DownloadInProgress c = ask_loaded c.job.loaded passes
ask_state SdoClientConnectionState.Closed c = passes

abbrev pub ask_free : Option Outgoing → SdoClientConnection → Does
ask_free (Some o) c = passes
ask_free None c = ask_state c.state c

abbrev pub ask_does : Now → SdoClientConnection → Does
ask_does n c = ask_free c.waiting.last_sent_command c

abbrev pub tick_due : Option ℕ → Now → SdoClientConnection → Does
tick_due None n c = passes
tick_due (Some d) n c = pick (ltb n.time d) passes (pick (eqb c.waiting.retries_left 0) stops sets)

abbrev pub tick_does : Now → SdoClientConnection → Does
tick_does n c = tick_due c.waiting.deadline n c

abbrev pub turn_does : Turn → Now → SdoClientConnection → Does
turn_does Turn.Asking n c = ask_does n c
turn_does Turn.Ticking n c = tick_does n c

-- the walk comes to a connection that sets a deadline
abbrev pub Meets : Does → Type 0 → Type 0
Meets passes rest = rest
Meets sets rest = Unit {0}
Meets stops rest = ⊥

abbrev pub Sets : (SdoClientConnection → Does) → List SdoClientConnection → Type 0
Sets does [] = ⊥
Sets does (c ∷ l) = Meets (does c) (Sets does l)

abbrev pub turn_checks : Turn → SdoClientManager → Bytes → Now → Bytes → List (Check Refusal)
turn_checks t m store n output =
    check Refusal.WrongStore (WrongStore store)
    ∷ check Refusal.BufferTooShort (length output < output_size)
    ∷ check Refusal.DeadlineRange (OutOfRange n × Sets (turn_does t n) (live m))
    ∷ []

-- ---- reply: an accepted reply that takes an upload past 4,096
abbrev pub Past : SdoClientConnectionState → Segmentation → ℕ → ℕ → Type 0
Past SdoClientConnectionState.Idle kind uploaded n = ⊥
Past SdoClientConnectionState.Opening kind uploaded n = ⊥
Past SdoClientConnectionState.Established kind uploaded n = ⊥
Past SdoClientConnectionState.UploadInit Segmentation.Expedited uploaded n = room_size < n
Past SdoClientConnectionState.UploadInit Segmentation.Initiate uploaded n = ⊥
Past SdoClientConnectionState.UploadInit Segmentation.Segment uploaded n = ⊥
Past SdoClientConnectionState.UploadInit Segmentation.Complete uploaded n = ⊥
Past SdoClientConnectionState.UploadInProgress Segmentation.Expedited uploaded n = ⊥
Past SdoClientConnectionState.UploadInProgress Segmentation.Initiate uploaded n = ⊥
Past SdoClientConnectionState.UploadInProgress Segmentation.Segment uploaded n = room_size < uploaded + n
Past SdoClientConnectionState.UploadInProgress Segmentation.Complete uploaded n = room_size < uploaded + n
Past SdoClientConnectionState.DownloadInProgress kind uploaded n = ⊥
Past SdoClientConnectionState.Closed kind uploaded n = ⊥

-- accepted: the command outstanding is answered, by the successor of the number last received, and with no abort mark
abbrev pub Accepted : Option Outgoing → SdoClientConnection → SequenceLayerHeader → SdoCommand → Type 0
Accepted outstanding c seq cmd =
    IsSomeAnd outstanding (λ (o : Outgoing). seq.receive_sequence_number ≡ o.send)
    × (seq.send_sequence_number ≡ (c.last_received_sequence_number + 1) % 64)
    × (cmd.header.is_aborted ≡ false)

abbrev pub OverflowsAs : Option ℕ → SdoClientManager → SequenceLayerHeader → SdoCommand → Bytes → Type 0
OverflowsAs found m seq cmd payload =
    IsSomeAnd found
    (λ (k : ℕ).
    Accepted (held_at m k).waiting.last_sent_command (held_at m k) seq cmd
    × Past (held_at m k).state cmd.header.segmentation (held_at m k).job.uploaded (length payload))

abbrev pub reply_checks : SdoClientManager → Bytes → ℕ → SequenceLayerHeader → SdoCommand → Bytes → List (Check Refusal)
reply_checks m store node seq cmd payload =
    check Refusal.WrongStore (WrongStore store)
    ∷ check Refusal.NoRoom (OverflowsAs (find_in node (live m)) m seq cmd payload)
    ∷ []

-- ---- given exactly when
abbrev pub checks_of : SdoClientManager → Bytes → Bytes → Call → List (Check Refusal)
checks_of m store output (starts node job n) = start_checks m store node job n
checks_of m store output (turns t n) = turn_checks t m store n output
checks_of m store output (replies node seq cmd payload) = reply_checks m store node seq cmd payload

unfoldable pub ExactlyWhen : Type 0
ExactlyWhen =
    (lent : Bytes) (earlier : List Event) (x : Event) (r : Refusal)
    → let host : Host = reached lent earlier in
    let checks : List (Check Refusal) = checks_of host.manager (lent_store x.lends host.store) x.output x.call in
    ((made host x).done.answer ≡ Answer.Refused r → First checks r) × (First checks r → (made host x).done.answer ≡ Answer.Refused r)
