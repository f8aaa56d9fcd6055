-- What a reply comes to, as one of a few cases, each with what decides it: by its numbers and its abort mark, and then by state. To show something
-- of a reply it is enough to show it of each case.
use Rattle.std.specs.Prelude.{Option, Some, None}
use Rattle.codec.specs.declared.sequence.SequenceLayerHeader.{SequenceLayerHeader}
use Rattle.con_rec.specs.declared.Outgoing.{Outgoing}
use Rattle.con_rec.specs.declared.Reason.{Reason}
use Rattle.codec.specs.declared.command.SdoCommand.{SdoCommand}
use Prim.Native.Nat.{ℕ, ◌+◌, ◌%◌, ◌≤◌}
use mathlib.Core.Path.{◌≡◌, refl}
use mathlib.Core.Bool.{true, false}
use lib.Dec.{leb, eqb}
use lib.ListN.{length}
use borrow.Author.Tests.{eqb-false, eqb-true, leb-true}
use Rattle.laws.proofs.Choices.{decided, either}
use Rattle.codec.specs.Bytes.{Bytes}
use Rattle.codec.specs.Request.{abort_code}
use Rattle.con_rec.specs.Record.{ended}
use Rattle.connection.specs.Types.{
  Outgoing,
  Reason,
  SdoClientConnection as Connection,
  SdoClientConnectionState as State,
  SdoCommand,
  Segmentation,
  SequenceLayerHeader,
}
use Rattle.con_reply.specs.Reply.{
  cleared,
  in_state,
  receive_initializes,
  reply_first,
  reply_in,
  reply_more,
  reply_of,
  reply_sent,
  reply_to,
  room_for,
  send_initializes,
  stored_last,
  stored_more,
  with_bytes,
}
use Rattle.con_reply.specs.declared.reply.Decision.{Decision}
use Rattle.con_reply.proofs.JobCarried.{Sending}

-- by state, with n payload bytes: only an upload stores, and what it stores lies within the room
pub record ByState (c : Connection) (n : ℕ) (room : Bytes) (P : Decision → Type 0) : Type 0 where
  pub out_of_place : P (Decision.Keeps (ended c Reason.Sequence))
  pub opened : c.state ≡ State.Opening → P (Decision.Keeps (in_state c State.Established))
  pub refused : P (Decision.Keeps (ended c Reason.OpenRefused))
  pub sent : c.state ≡ State.DownloadInProgress → P (Decision.Keeps (reply_sent c.job.loaded room c))
  pub uploads : c.state ≡ State.UploadInit → P (Decision.Keeps (in_state (with_bytes c 0) State.UploadInProgress))
  pub bad : P (Decision.Keeps (ended c Reason.BadSegment))
  pub more : (Sending c.state → ⊥) → (from : ℕ) → from + n ≤ length room → P (Decision.Stores (with_bytes c (from + n)) from)
  pub last : (Sending c.state → ⊥) → (from : ℕ) → from + n ≤ length room
      → P (Decision.Stores (ended (with_bytes c (from + n)) Reason.Complete) from)
  pub full : (Sending c.state → ⊥) → P Decision.NoRoom

module _ (c : Connection) (n : ℕ) (room : Bytes) (P : Decision → Type 0) (b : ByState c n room P) where
  stored_last_lem : (Sending c.state → ⊥) → (from : ℕ) → P (stored_last (room_for from n room) c from)
  unfolding room_for
  stored_last_lem never from =
      decided (λ (x : Option ℕ). P (stored_last x c from)) (leb (from + n) (length room)) _ None
      (λ h. b.last never from (leb-true _ _ h)) (λ h. b.full never)

  stored_more_lem : (Sending c.state → ⊥) → (from : ℕ) → P (stored_more (room_for from n room) c from)
  unfolding room_for
  stored_more_lem never from =
      decided (λ (x : Option ℕ). P (stored_more x c from)) (leb (from + n) (length room)) _ None
      (λ h. b.more never from (leb-true _ _ h)) (λ h. b.full never)

  first : (kind : Segmentation) → c.state ≡ State.UploadInit → P (reply_first kind c n room)
  first Segmentation.Expedited e = stored_last_lem (λ h. rw e at h) 0
  first Segmentation.Initiate e = b.uploads e
  first Segmentation.Segment e = b.bad
  first Segmentation.Complete e = b.bad

  later : (kind : Segmentation) → c.state ≡ State.UploadInProgress → P (reply_more kind c n room)
  later Segmentation.Expedited e = b.bad
  later Segmentation.Initiate e = b.bad
  later Segmentation.Segment e = stored_more_lem (λ h. rw e at h) c.job.uploaded
  later Segmentation.Complete e = stored_last_lem (λ h. rw e at h) c.job.uploaded

  pub in_by : (seq : SequenceLayerHeader) (kind : Segmentation) (s : State) → c.state ≡ s → P (reply_in s seq kind c n room)
  in_by seq kind State.Idle e = b.out_of_place
  in_by seq kind State.Opening e =
      either Q (receive_initializes seq.receive_con) _ _
      (either Q (send_initializes seq.send_con) _ _ (b.opened e) b.refused)
      b.refused
    where
      Q : Connection → Type 0
      Q d = P (Decision.Keeps d)
  in_by seq kind State.Established e = b.out_of_place
  in_by seq kind State.UploadInit e = first kind e
  in_by seq kind State.UploadInProgress e = later kind e
  in_by seq kind State.DownloadInProgress e = b.sent e
  in_by seq kind State.Closed e = b.out_of_place

module _ (seq : SequenceLayerHeader) (cmd : SdoCommand) (payload : Bytes) (c : Connection) (room : Bytes) where
  abbrev send : ℕ
  send = seq.send_sequence_number

  abbrev last : ℕ
  last = c.last_received_sequence_number

  -- for the command outstanding
  abbrev For : Outgoing → Type 0
  For o = (c.waiting.last_sent_command ≡ Some o) × (seq.receive_sequence_number ≡ o.send)

  -- nothing is outstanding; not for the command outstanding; the number last received, a wrong one; the successor, with the abort mark or without
  pub data ReplyView : Decision → Type 0 where
    unasked : c.waiting.last_sent_command ≡ None → ReplyView (Decision.Keeps c)
    other : {o : Outgoing} → c.waiting.last_sent_command ≡ Some o → (seq.receive_sequence_number ≡ o.send → ⊥)
        → ReplyView (Decision.Keeps c)
    again : {o : Outgoing} → For o → send ≡ last → ReplyView (Decision.Keeps (cleared c last))
    wrong : {o : Outgoing} → For o → (send ≡ (last + 1) % 64 → ⊥) → ReplyView (Decision.Keeps (ended c Reason.Sequence))
    aborted : {o : Outgoing} → For o → send ≡ (last + 1) % 64 → cmd.header.is_aborted ≡ true
        → ReplyView (Decision.Keeps (ended (cleared c send) (Reason.PeerAborted (abort_code payload))))
    taken : {o : Outgoing} → For o → (send ≡ last → ⊥) → send ≡ (last + 1) % 64 → cmd.header.is_aborted ≡ false
        → ReplyView (reply_in c.state seq cmd.header.segmentation (cleared c send) (length payload) room)

  pub reply_view : ReplyView (reply_of seq cmd payload c room)
  unfolding reply_of
  reply_view = go c.waiting.last_sent_command refl
    where
      go : (x : Option Outgoing) → c.waiting.last_sent_command ≡ x → ReplyView (reply_to x seq cmd payload c room)
      go None e = unasked e
      go (Some o) e =
          decided ReplyView (eqb seq.receive_sequence_number o.send) _ _
          (λ f.
          decided ReplyView (eqb send last) _ _ (λ g. again (e, eqb-true _ _ f) (eqb-true _ _ g))
          (λ g.
          decided ReplyView (eqb send ((last + 1) % 64)) _ _
          (λ h.
          decided ReplyView cmd.header.is_aborted _ _ (aborted (e, eqb-true _ _ f) (eqb-true _ _ h))
          (taken (e, eqb-true _ _ f) (eqb-false _ _ g) (eqb-true _ _ h)))
          (λ h. wrong (e, eqb-true _ _ f) (eqb-false _ _ h))))
          (λ f. other e (eqb-false _ _ f))

  pub reply_by_lem : (P : Decision → Type 0) → P (Decision.Keeps c) → P (Decision.Keeps (cleared c last)) → P (Decision.Keeps (ended c Reason.Sequence))
      → (send ≡ (last + 1) % 64 → P (Decision.Keeps (ended (cleared c send) (Reason.PeerAborted (abort_code payload)))))
      → (send ≡ (last + 1) % 64 → ByState (cleared c send) (length payload) room P)
      → P (reply_of seq cmd payload c room)
  reply_by_lem P ignored same bad marked by = go reply_view
    where
      go : {x : Decision} → ReplyView x → P x
      go (unasked e) = ignored
      go (other e f) = ignored
      go (again f g) = same
      go (wrong f h) = bad
      go (aborted f h a) = marked h
      go (taken f g h a) = in_by (cleared c send) (length payload) room P (by h) seq cmd.header.segmentation c.state refl
