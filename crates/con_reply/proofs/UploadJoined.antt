-- The first `uploaded` bytes of the room are an upload's: a reply that goes on with it or ends it leaves what was there, joined with its payload.
use Rattle.std.specs.Prelude.{Option, Some, None}
use Rattle.con_rec.specs.declared.Reason.{Reason}
use Prim.Native.Nat.{ℕ, ◌+◌, ◌≤◌}
use native.Mathlib.Omega.{arith}
use mathlib.Core.Path.{◌≡◌, refl, subst}
use mathlib.Core.List.{◌++◌}
use lib.Dec.{leb}
use lib.ListN.{length, take, drop, length-append}
use lib.Seq.{length-take-le, take-append_seam}
use borrow.Author.Tests.{leb-true}
use Rattle.laws.proofs.Choices.{decided}
use Rattle.codec.specs.Bytes.{Bytes, placed}
use Rattle.codec.proofs.WrittenBytes.{placed_length}
use Rattle.connection.specs.Types.{SdoClientConnection as Connection, Segmentation}
use Rattle.con_reply.specs.Reply.{reply_first, reply_more, room_for, stored_last, stored_more}
use Rattle.con_reply.specs.Uploaded.{joined}
use Rattle.con_reply.specs.declared.reply.Decision.{Decision}

-- the room holds so many bytes, and these are the upload's
abbrev pub Holds : Connection → Bytes → Bytes → Type 0
Holds d room bytes = (d.job.uploaded ≤ length room) × (take d.job.uploaded room ≡ bytes)

abbrev pub WhileRunning : Option Reason → Type 0 → Type 0
WhileRunning None holds = holds
WhileRunning (Some why) holds = Unit {0}

abbrev pub Joins : Bytes → Bytes → Bytes → Decision → Type 0
Joins bytes payload room (Decision.Keeps d) = WhileRunning d.outcome (Holds d room bytes)
Joins bytes payload room (Decision.Stores d from) = Holds d (placed room from payload) bytes
Joins bytes payload room Decision.NoRoom = Unit {0}

-- bytes put behind the first ones
put_behind : (room payload : Bytes) (from : ℕ) → from + length payload ≤ length room
    → (from + length payload ≤ length (placed room from payload))
    × (take (from + length payload) (placed room from payload) ≡ take from room ++ payload)
unfolding placed
put_behind room payload from h =
    let n : length (take from room ++ payload) ≡ from + length payload = rw (length-append, length-take-le from room (omega arith)) in (
      omega (arith, placed_length room from payload h),
      subst (λ (k : ℕ). take k (take from room ++ payload ++ drop (from + length payload) room) ≡ take from room ++ payload) n
          (take-append_seam (take from room ++ payload) (drop (from + length payload) room)),
    )

module _ (c : Connection) (payload room : Bytes) where
  last_joins : (from : ℕ) → Joins (take from room ++ payload) payload room (stored_last (room_for from (length payload) room) c from)
  unfolding room_for
  last_joins from =
      decided (λ (x : Option ℕ). Joins (take from room ++ payload) payload room (stored_last x c from)) (leb (from + length payload) (length room)) _ _
      (λ h. put_behind room payload from (leb-true _ _ h)) (λ h. tt)

  more_joins : (from : ℕ) → Joins (take from room ++ payload) payload room (stored_more (room_for from (length payload) room) c from)
  unfolding room_for
  more_joins from =
      decided (λ (x : Option ℕ). Joins (take from room ++ payload) payload room (stored_more x c from)) (leb (from + length payload) (length room)) _ _
      (λ h. put_behind room payload from (leb-true _ _ h)) (λ h. tt)

  -- in UploadInit, and in UploadInProgress
  pub first_joined : c.outcome ≡ None → (kind : Segmentation) (before : Bytes)
      → Joins (joined kind before payload) payload room (reply_first kind c (length payload) room)
  first_joined r Segmentation.Expedited before = last_joins 0
  first_joined r Segmentation.Initiate before = rw r (omega arith, refl)
  first_joined r Segmentation.Segment before = tt
  first_joined r Segmentation.Complete before = tt

  pub more_joined : (kind : Segmentation)
      → Joins (joined kind (take c.job.uploaded room) payload) payload room (reply_more kind c (length payload) room)
  more_joined Segmentation.Expedited = tt
  more_joined Segmentation.Initiate = tt
  more_joined Segmentation.Segment = more_joins c.job.uploaded
  more_joined Segmentation.Complete = last_joins c.job.uploaded
