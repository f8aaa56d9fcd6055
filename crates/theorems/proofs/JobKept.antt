-- What has to be shown of a job so that it can be followed (Followed): what is true while it runs, what each end must leave, and that each step of a
-- connection keeps it.
use Rattle.std.specs.Prelude.{Option, Some, None}
use Prim.Native.Nat.{ℕ}
use mathlib.Core.Path.{◌≡◌, refl}
use mathlib.Core.Bool.{Bool, true, false}
use mathlib.Core.List.{List}
use lib.Dec.{leb}
use lib.ListN.{length, take}
use Rattle.laws.proofs.Choices.{either}
use Rattle.codec.specs.Bytes.{Bytes, placed}
use Rattle.codec.specs.Dcf.{dcf_step}
use Rattle.con_rec.specs.Commands.{command_by, command_of, sequence_of}
use Rattle.con_rec.specs.Parts.{total}
use Rattle.con_rec.specs.declared.Message.{Message}
use Rattle.con_reply.proofs.ReplyCases.{in_by}
use Rattle.con_reply.specs.Consistent.{LoadsIn, awaiting, is_closed}
use Rattle.con_reply.specs.Delivery.{is_opening}
use Rattle.con_reply.specs.Reply.{cleared, reply_in, reply_next, reply_sent}
use Rattle.connection.proofs.TurnView.{Given}
use Rattle.connection.specs.Ask.{finish, with_offset}
use Rattle.connection.specs.Start.{is_idle}
use Rattle.theorems.specs.Run.{next}
use Rattle.theorems.specs.Story.{Awaits, Story, accepted, answered, asked}
use Rattle.theorems.specs.Types.{
  DcfStep,
  Decision,
  Mode,
  Outgoing,
  Reason,
  SdoClientConnection as Connection,
  SdoClientConnectionState as State,
  SdoJob,
  Segmentation,
  SequenceLayerHeader,
  Transfer,
}
use Rattle.theorems.proofs.NodeView.{gave_by}

-- ---- the command that waits, as the story has it
abbrev pub AwaitsAs : Awaits → Option Outgoing → ℕ → Type 0
AwaitsAs a None last = a ≡ None
AwaitsAs a (Some o) last = (a ≡ Some (sequence_of o, command_of o)) × (o.receive ≡ last)

-- an opening is waited for in Opening alone
abbrev pub opens : State → Bool
opens State.Idle = false
opens State.Opening = true
opens State.Established = false
opens State.UploadInit = false
opens State.UploadInProgress = false
opens State.DownloadInProgress = false
opens State.Closed = false

-- no reply is waited for in Idle, Established and Closed
abbrev pub MayWait : State → Type 0
MayWait State.Idle = ⊥
MayWait State.Opening = Unit {0}
MayWait State.Established = ⊥
MayWait State.UploadInit = Unit {0}
MayWait State.UploadInProgress = Unit {0}
MayWait State.DownloadInProgress = Unit {0}
MayWait State.Closed = ⊥

pub waited : (mode : Mode) (m : Message) (t : ℕ) → is_closed (awaiting m) ≡ false
    → MayWait (awaiting m) × (is_opening (command_by mode m t).header.command_id ≡ opens (awaiting m))
waited mode Message.Opening t h = (tt, refl)
waited mode (Message.Read q) t h = (tt, refl)
waited mode Message.Next t h = (tt, refl)
waited mode (Message.First x) t h = (tt, refl)
waited mode (Message.Later x sent) t h = (tt, refl)
waited mode (Message.Abort code) t h = cc

-- a reason that is neither Complete nor Cut
abbrev pub Breaks : Reason → Type 0
Breaks Reason.Complete = ⊥
Breaks Reason.Cut = ⊥
Breaks Reason.OpenRefused = Unit {0}
Breaks Reason.Sequence = Unit {0}
Breaks (Reason.PeerAborted code) = Unit {0}
Breaks Reason.Timeout = Unit {0}
Breaks Reason.BadSegment = Unit {0}

-- ---- what is true of a job
-- A truth about a running job, told of its story, its room, its state and the job in its record; and one about a job that ended, told of the reason too.
abbrev pub Running : Type 1
Running = Story → Bytes → State → SdoJob → Type 0

abbrev pub Ending : Type 1
Ending = Story → Bytes → Reason → SdoJob → Type 0

-- what a step leaves
abbrev pub LeavesBy : Running → Ending → Story → Bytes → Connection → Option Reason → Type 0
LeavesBy Runs Ends s room d None = Runs s room d.state d.job
LeavesBy Runs Ends s room d (Some why) = Ends s room why d.job

abbrev pub Leaves : Running → Ending → Story → Bytes → Connection → Type 0
Leaves Runs Ends s room d = LeavesBy Runs Ends s room d d.outcome

abbrev pub Decides : Running → Ending → Story → Bytes → Bytes → Decision → Type 0
Decides Runs Ends s payload room (Decision.Keeps d) = Leaves Runs Ends s room d
Decides Runs Ends s payload room (Decision.Stores d from) = Leaves Runs Ends s (placed room from payload) d
Decides Runs Ends s payload room Decision.NoRoom = Unit {0}

-- a reply that was taken cleared its command
abbrev pub Clear : Decision → Type 0
Clear (Decision.Keeps d) = d.waiting.last_sent_command ≡ None
Clear (Decision.Stores d from) = d.waiting.last_sent_command ≡ None
Clear Decision.NoRoom = Unit {0}

module _ (c : Connection) (number n : ℕ) (room : Bytes) where
  clear_next : (x : DcfStep) → Clear (Decision.Keeps (reply_next x (cleared c number)))
  clear_next (DcfStep.Entry entry next) = refl
  clear_next DcfStep.End = refl
  clear_next DcfStep.Unreadable = refl

  clear_sent : (x : Option Transfer) → Clear (Decision.Keeps (reply_sent x room (cleared c number)))
  clear_sent (Some t) =
      either (λ (d : Connection). Clear (Decision.Keeps d)) (leb (total t) c.job.offset) _ _
      (clear_next (dcf_step (take c.job.size room) c.job.cursor)) refl
  clear_sent None = refl

  pub clear_in : (seq : SequenceLayerHeader) (kind : Segmentation) → Clear (reply_in c.state seq kind (cleared c number) n room)
  clear_in seq kind =
      in_by (cleared c number) n room Clear
      (record {
        out_of_place = refl;
        opened = λ e. refl;
        refused = refl;
        sent = λ e. clear_sent c.job.loaded;
        uploads = λ e. refl;
        bad = refl;
        more = λ f from w. refl;
        last = λ f from w. refl;
        full = λ f. tt;
      })
      seq kind c.state refl

-- what each step of a connection must keep
pub record Kept (entries : List Bytes) (Runs : Running) (Ends : Ending) : Type 0 where
  -- a running job is neither Idle nor Closed
  pub works : (s : Story) (room : Bytes) (x : State) (j : SdoJob) → Runs s room x j → is_idle x ≡ false
  -- it does not depend on which command is awaited
  pub hears : (s : Story) (room : Bytes) (x : State) (j : SdoJob) → Runs s room x j → Runs (answered s) room x j
  -- any end but Complete and Cut may come now
  pub breaks : (s : Story) (room : Bytes) (x : State) (j : SdoJob) → Runs s room x j → (why : Reason) → Breaks why → Ends s room why j
  -- ask gives a command
  pub gives : (s : Story) (room : Bytes) (c : Connection) {x : State} {sent : ℕ} {o : Outgoing} → Given c x sent o
      → Runs s room c.state c.job → Runs (asked s (gave_by room (Some o))) room x (with_offset c.job sent)
  -- ask finds nothing to send
  pub finishes : (s : Story) (room : Bytes) (c : Connection) → c.state ≡ State.Established → c.job.loaded ≡ None
      → c.job.pending_read ≡ None → Runs s room c.state c.job → Ends s room (finish c.job.cursor.left) c.job
  -- a reply is accepted
  pub takes : (s : Story) (room : Bytes) (c : Connection) (seq : SequenceLayerHeader) (kind : Segmentation) (payload : Bytes)
      → LoadsIn c.state c.job.loaded → c.outcome ≡ None → MayWait c.state → Runs s room c.state c.job
      → Decides Runs Ends (accepted entries (opens c.state) s kind payload) payload room (reply_in c.state seq kind c (length payload) room)
