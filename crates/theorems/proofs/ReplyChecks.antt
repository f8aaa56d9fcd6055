-- A reply is refused for room exactly when it is accepted and takes an upload past the room.
use Rattle.std.specs.Prelude.{Option, Some, None}
use Prim.Native.Nat.{ℕ, ◌+◌, ◌≤◌, ◌<◌, ◌%◌}
use native.Mathlib.Omega.{arith}
use mathlib.Core.Path.{◌≡◌}
use lib.Dec.{leb, eqb}
use lib.ListN.{length}
use borrow.Author.Tests.{eqb-true, eqb-false, leb-true, leb-false}
use Rattle.codec.specs.Bytes.{Bytes}
use Rattle.con_reply.specs.Reply.{
  cleared,
  reply_first,
  reply_in,
  reply_more,
  reply_of,
  reply_to,
  room_for,
  stored_last,
  stored_more,
}
use Rattle.laws.proofs.Choices.{decided}
use Rattle.man_table.specs.Table.{room_size}
use Rattle.theorems.specs.Causes.{Accepted, Past}
use Rattle.theorems.specs.Types.{
  Decision,
  Outgoing,
  SdoClientConnection as Connection,
  SdoClientConnectionState as State,
  SdoCommand,
  Segmentation,
  SequenceLayerHeader,
}

-- refused for a cause, and for no other
unfoldable pub NoRoomIf : Type 0 → Decision → Type 0
NoRoomIf cause (Decision.Keeps c) = cause → ⊥
NoRoomIf cause (Decision.Stores c from) = cause → ⊥
NoRoomIf cause Decision.NoRoom = cause

keeps : {cause : Type 0} (c : Connection) → (cause → ⊥) → NoRoomIf cause (Decision.Keeps c)
unfolding NoRoomIf
keeps c h = h

same_cause : (A B : Type 0) → (A → B) → (B → A) → (x : Decision) → NoRoomIf A x → NoRoomIf B x
unfolding NoRoomIf
same_cause A B f g (Decision.Keeps c) h = λ b. h (g b)
same_cause A B f g (Decision.Stores c from) h = λ b. h (g b)
same_cause A B f g Decision.NoRoom h = f h

module _ (room : Bytes) (size : length room ≡ room_size) where
  module _ (c : Connection) (from n : ℕ) where
    short : from + n ≤ length room → room_size < from + n → ⊥
    short h z = omega arith

    past : length room < from + n → room_size < from + n
    past h = omega arith

    last_if : NoRoomIf (room_size < from + n) (stored_last (room_for from n room) c from)
    unfolding room_for NoRoomIf
    last_if =
        decided (λ (x : Option ℕ). NoRoomIf (room_size < from + n) (stored_last x c from)) (leb (from + n) (length room))
        (Some (from + n)) None (λ h. short (leb-true _ _ h)) (λ h. past (leb-false _ _ h))

    more_if : NoRoomIf (room_size < from + n) (stored_more (room_for from n room) c from)
    unfolding room_for NoRoomIf
    more_if =
        decided (λ (x : Option ℕ). NoRoomIf (room_size < from + n) (stored_more x c from)) (leb (from + n) (length room))
        (Some (from + n)) None (λ h. short (leb-true _ _ h)) (λ h. past (leb-false _ _ h))

  first_reply : (kind : Segmentation) (c : Connection) (n : ℕ)
      → NoRoomIf (Past State.UploadInit kind c.job.uploaded n) (reply_first kind c n room)
  first_reply Segmentation.Expedited c n =
      same_cause (room_size < 0 + n) (room_size < n) (λ h. omega arith) (λ h. omega arith) (stored_last (room_for 0 n room) c 0) (last_if c 0 n)
  first_reply Segmentation.Initiate c n = keeps _ (λ z. z)
  first_reply Segmentation.Segment c n = keeps _ (λ z. z)
  first_reply Segmentation.Complete c n = keeps _ (λ z. z)

  more_reply : (kind : Segmentation) (c : Connection) (n : ℕ)
      → NoRoomIf (Past State.UploadInProgress kind c.job.uploaded n) (reply_more kind c n room)
  more_reply Segmentation.Expedited c n = keeps _ (λ z. z)
  more_reply Segmentation.Initiate c n = keeps _ (λ z. z)
  more_reply Segmentation.Segment c n = more_if c c.job.uploaded n
  more_reply Segmentation.Complete c n = last_if c c.job.uploaded n

  in_reply : (s : State) (seq : SequenceLayerHeader) (kind : Segmentation) (c : Connection) (n : ℕ)
      → NoRoomIf (Past s kind c.job.uploaded n) (reply_in s seq kind c n room)
  in_reply State.Idle seq kind c n = keeps _ (λ z. z)
  in_reply State.Opening seq kind c n = keeps _ (λ z. z)
  in_reply State.Established seq kind c n = keeps _ (λ z. z)
  in_reply State.UploadInit seq kind c n = first_reply kind c n
  in_reply State.UploadInProgress seq kind c n = more_reply kind c n
  in_reply State.DownloadInProgress seq kind c n = keeps _ (λ z. z)
  in_reply State.Closed seq kind c n = keeps _ (λ z. z)

  module _ (seq : SequenceLayerHeader) (cmd : SdoCommand) (payload : Bytes) (c : Connection)
      (last : c.last_received_sequence_number < 64) where
    abbrev Overflow : Type 0
    Overflow = Past c.state cmd.header.segmentation c.job.uploaded (length payload)

    abbrev Cause : Option Outgoing → Type 0
    Cause x = Accepted x c seq cmd × Overflow

    to_reply : (x : Option Outgoing) → NoRoomIf (Cause x) (reply_to x seq cmd payload c room)
    to_reply None = keeps c (λ z. z.0.0)
    to_reply (Some o) =
        decided P (eqb seq.receive_sequence_number o.send) _ _
        (λ h. decided P (eqb send c.last_received_sequence_number) _ _
        (λ k. keeps _ (λ z. again (eqb-true _ _ k) z.0.1))
        (λ k. decided P (eqb send ((c.last_received_sequence_number + 1) % 64)) _ _
        (λ j. decided P cmd.header.is_aborted _ _
        (λ i. keeps _ (λ z. cc (i, z.0.2)))
        (λ i. same_cause Overflow (Cause (Some o)) (λ p. ((eqb-true _ _ h, eqb-true _ _ j, i), p)) (λ z. z.1) _
        (in_reply c.state seq cmd.header.segmentation (cleared c send) (length payload))))
        (λ j. keeps _ (λ z. eqb-false _ _ j z.0.1))))
        (λ h. keeps _ (λ z. eqb-false _ _ h z.0.0))
      where
        P : Decision → Type 0
        P = NoRoomIf (Cause (Some o))

        send : ℕ
        send = seq.send_sequence_number

        -- the number last received is not its own successor
        again : send ≡ c.last_received_sequence_number → send ≡ (c.last_received_sequence_number + 1) % 64 → ⊥
        again e f = omega (arith, last)

    pub reply_if : NoRoomIf (Cause c.waiting.last_sent_command) (reply_of seq cmd payload c room)
    unfolding reply_of
    reply_if = to_reply c.waiting.last_sent_command
