-- A reply leaves a consistent connection consistent with its room: the number last received becomes the reply's only where that is the
-- successor modulo 64, what is loaded lies within the job, and what is stored lies within the room.
use Rattle.std.specs.Prelude.{Option, Some, None, Ok}
use Rattle.codec.specs.declared.sequence.SequenceLayerHeader.{SequenceLayerHeader}
use Rattle.codec.specs.declared.dcf.Transfer.{Transfer}
use Rattle.con_rec.specs.declared.Reason.{Reason}
use Rattle.codec.specs.declared.command.SdoCommand.{SdoCommand}
use Prim.Native.Nat.{ℕ, ◌≤◌, ◌<◌}
use native.Mathlib.Omega.{arith}
use mathlib.Core.Path.{◌≡◌, refl, sym}
use mathlib.Core.Bool.{false}
use lib.Dec.{leb}
use lib.ListN.{length, take, length-take}
use Rattle.codec.specs.Bytes.{Bytes}
use Rattle.codec.specs.Dcf.{dcf_step}
use Rattle.codec.specs.Request.{abort_code}
use Rattle.codec.proofs.Entries.{Stepped as Found, stepped}
use Rattle.con_reply.specs.Consistent.{Consistent, LiesIn, LoadsIn, is_closed, is_ended}
use Rattle.con_rec.specs.Parts.{total}
use Rattle.con_rec.specs.Record.{updated, next_transaction}
use Rattle.con_reply.specs.Reply.{
  cleared,
  delivered_one,
  replied,
  reply_next,
  reply_of,
  reply_sent,
  room_after,
  with_bytes,
  with_job,
  with_transfer,
  with_upload,
}
use Rattle.connection.specs.Types.{
  DcfStep,
  Reason,
  SdoClientConnection as Connection,
  SdoClientConnectionState as State,
  SdoCommand,
  SdoJob,
  SequenceLayerHeader,
}
use Rattle.con_reply.specs.declared.reply.Decision.{Decision}
use Rattle.laws.proofs.Choices.{either}
use Rattle.con_reply.proofs.ReplyCases.{ByState, reply_by_lem}
use Rattle.con_reply.proofs.StepSound.{TakenSound, ended_sound, not_downloading, other_room, runs, with_parts}
use Rattle.con_reply.proofs.StoresWithin.{replied_room}

-- a connection whose command was cleared
module _ (b : Connection) (number : ℕ) (room : Bytes) (i : Consistent (cleared b number) room) where
  abbrev c : Connection
  c = cleared b number

  moved : (s : State) (t : ℕ) (job : SdoJob) → LiesIn job.size job.loaded → job.size ≤ length room → LoadsIn s job.loaded
      → job.uploaded ≤ length room → is_ended c.outcome ≡ is_closed s
      → Consistent (updated c s t c.send_sequence_number number job c.waiting c.outcome) room
  moved s t job h k l u e = with_parts c room i s t job c.waiting c.outcome tt tt h k l u e

  delivered_sound : Consistent (with_job c (delivered_one c.job)) room
  delivered_sound =
      moved c.state c.transaction_id (delivered_one c.job) i.within i.held i.loads i.brings i.ends

  bytes_sound : (n : ℕ) → n ≤ length room → Consistent (with_bytes c n) room
  bytes_sound n h = moved c.state c.transaction_id (with_upload c.job n) i.within i.held i.loads h i.ends

  -- a download goes on
  next_sound : is_ended c.outcome ≡ false → (d : DcfStep)
      → Found (take c.job.size room) c.job.cursor.at c.job.cursor.left d → Consistent (reply_next d c) room
  next_sound r (DcfStep.Entry entry next) st =
      moved State.Established (next_transaction c.transaction_id)
      (with_transfer (delivered_one c.job) entry next)
      (omega (arith, st.2, length-take c.job.size room)) i.held tt i.brings r
  next_sound r DcfStep.End st = ended_sound (with_job c (delivered_one c.job)) room delivered_sound Reason.Complete
  next_sound r DcfStep.Unreadable st = ended_sound (with_job c (delivered_one c.job)) room delivered_sound Reason.Cut

  sent_sound : is_ended c.outcome ≡ false → (x : Option Transfer) → Consistent (reply_sent x room c) room
  sent_sound r (Some t) =
      either (λ (d : Connection). Consistent d room) (leb (total t) c.job.offset) _ c
      (next_sound r (dcf_step (take c.job.size room) c.job.cursor) (stepped (take c.job.size room) c.job.cursor))
      i
  sent_sound r None = i

  by_state : (n : ℕ) → ByState c n room (λ (x : Decision). TakenSound room (replied x))
  by_state n =
      record {
        out_of_place = ended_sound c room i Reason.Sequence;
        opened = λ e.
            moved State.Established c.transaction_id c.job i.within i.held
            (not_downloading State.Established refl c.job.loaded) i.brings (runs c room i State.Opening e refl);
        refused = ended_sound c room i Reason.OpenRefused;
        sent = λ e. sent_sound (runs c room i State.DownloadInProgress e refl) c.job.loaded;
        uploads = λ e.
            moved State.UploadInProgress c.transaction_id _ i.within i.held
            (not_downloading State.UploadInProgress refl c.job.loaded) (omega arith) (runs c room i State.UploadInit e refl);
        bad = ended_sound c room i Reason.BadSegment;
        more = λ never from h. bytes_sound _ h;
        last = λ never from h. ended_sound (with_bytes c _) room (bytes_sound _ h) Reason.Complete;
        full = λ never. tt;
      }

module _ (c : Connection) (room : Bytes) (i : Consistent c room) (seq : SequenceLayerHeader) (cmd : SdoCommand) (payload : Bytes) where
  cleared_sound : (last : ℕ) → last < 64 → Consistent (cleared c last) room
  cleared_sound last h =
      record {
        send = i.send;
        last = h;
        waits = tt;
        repeats = tt;
        within = i.within;
        held = i.held;
        loads = i.loads;
        brings = i.brings;
        ends = i.ends;
      }

  -- with the room as it was; the bytes that are stored leave its length
  in_room : TakenSound room (replied (reply_of seq cmd payload c room))
  in_room =
      let send : ℕ = seq.send_sequence_number in
      reply_by_lem seq cmd payload c room (λ (x : Decision). TakenSound room (replied x)) i (cleared_sound _ i.last)
      (ended_sound c room i Reason.Sequence)
      (λ h. ended_sound (cleared c send) room (cleared_sound send (omega arith)) (Reason.PeerAborted (abort_code payload)))
      (λ h. by_state c send room (cleared_sound send (omega arith)) (length payload))

  pub reply_sound : (d : Connection) → replied (reply_of seq cmd payload c room) ≡ Ok d
      → Consistent d (room_after (reply_of seq cmd payload c room) payload room)
  reply_sound d e = other_room d room _ (sym (replied_room seq cmd payload c room)) (rw e at in_room)
