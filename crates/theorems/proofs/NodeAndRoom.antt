-- What no call of a connection changes: its node and its room; and what a reply does not change besides: what the job reads.
use Rattle.std.specs.Prelude.{Option, Some, None, Result, Ok, Err}
use mathlib.Core.Path.{◌≡◌, refl, subst}
use lib.Dec.{leb}
use lib.ListN.{take}
use Rattle.codec.specs.Bytes.{Bytes}
use Rattle.codec.specs.Dcf.{dcf_step}
use Rattle.connection.proofs.TurnView.{AskView, TickView, again, ask_view, early, ends, gives, late, never, over, silent, tick_view}
use Rattle.connection.specs.Ask.{ask_of}
use Rattle.connection.specs.Tick.{tick_of}
use Rattle.con_reply.proofs.ReplyCases.{reply_by_lem}
use Rattle.con_reply.specs.Reply.{cleared, replied, reply_next, reply_of, reply_sent}
use Rattle.laws.proofs.Choices.{either}
use Rattle.con_rec.specs.Parts.{total}
use Rattle.theorems.specs.Types.{
  DcfStep,
  Decision,
  Now,
  Refusal,
  SdoClientConnection as Connection,
  SdoCommand,
  SequenceLayerHeader,
  Step,
  Transfer,
}

-- the second connection has the node and the room of the first
abbrev pub Same : Connection → Connection → Type 0
Same c d = (d.target_node_id ≡ c.target_node_id) × (d.room ≡ c.room)

-- what holds of a connection and the one that a step makes of it
abbrev pub StepBy : (Connection → Connection → Type 0) → Connection → Result Step Refusal → Type 0
StepBy R c (Ok s) = R c s.connection
StepBy R c (Err r) = Unit {0}

-- and its job reads the same
abbrev pub SameRead : Connection → Connection → Type 0
SameRead c d = Same c d × (d.job.pending_read ≡ c.job.pending_read)

abbrev DecisionSame : Connection → Decision → Type 0
DecisionSame c (Decision.Keeps d) = SameRead c d
DecisionSame c (Decision.Stores d from) = SameRead c d
DecisionSame c Decision.NoRoom = Unit {0}

abbrev pub TakenSame : Connection → Result Connection Refusal → Type 0
TakenSame c (Ok d) = Same c d
TakenSame c (Err r) = Unit {0}

abbrev TakenRead : Connection → Result Connection Refusal → Type 0
TakenRead c (Ok d) = SameRead c d
TakenRead c (Err r) = Unit {0}

module _ (c : Connection) where
  same : Same c c
  same = (refl, refl)

  pub ask_same : (n : Now) → StepBy Same c (ask_of c n)
  ask_same n = go (ask_view c n)
    where
      go : {x : Result Step Refusal} → AskView c n x → StepBy Same c x
      go (silent w) = same
      go (ends f s l p) = same
      go (gives g h) = same
      go (late g h) = tt

  pub tick_same : (n : Now) → StepBy Same c (tick_of c n)
  tick_same n = go (tick_view c n)
    where
      go : {x : Result Step Refusal} → TickView c n x → StepBy Same c x
      go (never e) = same
      go (early e h) = same
      go (over e h r) = same
      go (again e h r k) = same
      go (late e h r k) = tt

  -- ---- reply
  same_read : SameRead c c
  same_read = (same, refl)

  next_same : (d : DcfStep) → SameRead c (reply_next d c)
  next_same (DcfStep.Entry entry next) = same_read
  next_same DcfStep.End = same_read
  next_same DcfStep.Unreadable = same_read

  sent_same : (room : Bytes) (x : Option Transfer) → SameRead c (reply_sent x room c)
  sent_same room (Some t) =
      either (SameRead c) (leb (total t) c.job.offset) _ c (next_same (dcf_step (take c.job.size room) c.job.cursor)) same_read
  sent_same room None = same_read

reply_same : (c : Connection) (seq : SequenceLayerHeader) (cmd : SdoCommand) (payload room : Bytes)
    → DecisionSame c (reply_of seq cmd payload c room)
reply_same c seq cmd payload room =
    reply_by_lem seq cmd payload c room (DecisionSame c) (same_read c) (same_read c) (same_read c) (λ h. same_read c)
    (λ h.
    record {
      out_of_place = same_read c;
      opened = λ e. same_read c;
      refused = same_read c;
      sent = λ e. sent_same (cleared c seq.send_sequence_number) room c.job.loaded;
      uploads = λ e. same_read c;
      bad = same_read c;
      more = λ s from w. same_read c;
      last = λ s from w. same_read c;
      full = λ s. tt;
    })

pub replied_read : (seq : SequenceLayerHeader) (cmd : SdoCommand) (payload : Bytes) (c : Connection) (room : Bytes) (d : Connection)
    → replied (reply_of seq cmd payload c room) ≡ Ok d → SameRead c d
replied_read seq cmd payload c room d e =
    subst (TakenRead c) e (go (reply_of seq cmd payload c room) (reply_same c seq cmd payload room))
  where
    go : (x : Decision) → DecisionSame c x → TakenRead c (replied x)
    go (Decision.Keeps d) h = h
    go (Decision.Stores d from) h = h
    go Decision.NoRoom h = tt

pub replied_same : (seq : SequenceLayerHeader) (cmd : SdoCommand) (payload : Bytes) (c : Connection) (room : Bytes) (d : Connection)
    → replied (reply_of seq cmd payload c room) ≡ Ok d → Same c d
replied_same seq cmd payload c room d e = (replied_read seq cmd payload c room d e).0
