-- Ask keeps what is carried: what it gives is the next part of the loaded transfer; and where nothing is loaded any more, the job ends as demand 3
-- asks.
use Rattle.std.specs.Prelude.{Option, Some, None}
use Rattle.codec.specs.declared.request.ReadByIndexRequest.{ReadByIndexRequest}
use Rattle.codec.specs.declared.dcf.Transfer.{Transfer}
use Rattle.con_rec.specs.declared.Outgoing.{Outgoing}
use Rattle.con_rec.specs.declared.Reason.{Reason}
use Prim.Native.Nat.{ℕ, ◌+◌, ◌-◌, ◌≤◌}
use native.Mathlib.Omega.{arith}
use mathlib.Core.Path.{◌≡◌, refl, ap, subst}
use mathlib.Core.List.{List, [], ◌∷◌, ◌++◌, append-nil}
use lib.Dec.{leb, eqb}
use lib.ListN.{length, take, drop}
use lib.Seq.{take-add}
use borrow.Author.Tests.{eqb-true, eqb-false}
use Rattle.codec.specs.Bytes.{Bytes}
use Rattle.connection.proofs.TurnView.{Given, first, later, next, opening, reading}
use Rattle.connection.specs.Ask.{finish}
use Rattle.con_reply.specs.Delivery.{with_part, longer, ForEnd}
use Rattle.con_reply.specs.Sent.{sent_of}
use Rattle.con_rec.specs.Parts.{wire, total, most, limit, first_kind, later_kind}
use Rattle.connection.specs.Types.{
  DcfCursor,
  Mode,
  Outgoing,
  Reason,
  SdoClientConnection as Connection,
  SdoClientConnectionState as State,
  Segmentation,
  Transfer,
}
use Rattle.con_reply.proofs.JobCarried.{Aim, Carried, Carries, goes_on, joined_by}
use Rattle.laws.proofs.Choices.{decided, either}
use Rattle.con_rec.proofs.Wires.{wire_same}

-- ---- pieces
longer_last : (l : List Bytes) (x p : Bytes) → longer (l ++ (x ∷ [])) p ≡ l ++ ((x ++ p) ∷ [])
longer_last [] x p = refl
longer_last (w ∷ []) x p = refl
longer_last (w ∷ v ∷ l) x p = ap (λ (r : List Bytes). w ∷ r) (longer_last (v ∷ l) x p)

first_part : (mode : Mode) (n : ℕ) (l : List Bytes) (p : Bytes) → with_part (first_kind mode n) l p ≡ l ++ (p ∷ [])
first_part mode n l p =
    either (λ (s : Segmentation). with_part s l p ≡ l ++ (p ∷ [])) (leb n (limit mode)) Segmentation.Expedited Segmentation.Initiate refl refl

later_part : (n : ℕ) (l : List Bytes) (p : Bytes) → with_part (later_kind n) l p ≡ longer l p
later_part n l p =
    either (λ (s : Segmentation). with_part s l p ≡ longer l p) (leb n most) Segmentation.Complete Segmentation.Segment refl refl

module _ (a : Aim) (got : List Bytes) where
  -- ---- nothing is loaded: all was sent
  pub finished : (c : Connection)
      → Carried a got State.Established None c.job.offset c.job.cursor c.job.delivered
      c.job.pending_read c.job.size
      → ForEnd a.entries a.count got (finish c.job.cursor.left) c.job.delivered
  finished c j =
      decided (λ (why : Reason). ForEnd a.entries a.count got why c.job.delivered) (eqb c.job.cursor.left 0)
      Reason.Complete Reason.Cut
      (λ h. (whole, number, rw all (omega (arith, j.counted, eqb-true c.job.cursor.left 0 h))))
      (λ h. (whole, number, λ z. omega (arith, j.counted, eqb-false c.job.cursor.left 0 h, ap length all)))
    where
      all : a.entries ≡ j.before
      all = rw (j.known, j.none) (append-nil j.before)

      whole : got ≡ a.entries
      whole = rw (j.joined, all) (append-nil j.before)

      number : c.job.delivered ≡ length a.entries
      number = rw all j.figure

  -- ---- the parts of the loaded transfer, in the room as in the job's own bytes
  in_room : {s : State} {t : Transfer} {offset : ℕ} {k : DcfCursor} {delivered : ℕ} {read : Option ReadByIndexRequest} {size : ℕ}
      → Carried a got s (Some t) offset k delivered read size → wire a.room t ≡ wire a.job t
  in_room {t} {size} j =
      subst (λ (b : Bytes). t.start + t.len ≤ length b → wire a.room t ≡ wire b t) j.holds (wire_same a.room size t) j.within

  first_sent : (mode : Mode) (t : Transfer) (m offset : ℕ) (k : DcfCursor) (delivered : ℕ) (read : Option ReadByIndexRequest) (size : ℕ)
      → Carried a got State.Established (Some t) offset k delivered read size
      → Carried a (with_part (first_kind mode (total t)) got (take m (wire a.room t))) State.DownloadInProgress (Some t) m
      k delivered read size
  first_sent mode t m offset k delivered read size j = goes_on _ _ m j tt (rw (first_part, in_room j, j.joined, append-nil))

  later_sent : (t : Transfer) (m offset : ℕ) (k : DcfCursor) (delivered : ℕ) (read : Option ReadByIndexRequest) (size : ℕ)
      → Carried a got State.DownloadInProgress (Some t) offset k delivered read size
      → Carried a (with_part (later_kind (total t - offset)) got (take m (drop offset (wire a.room t)))) State.DownloadInProgress
      (Some t) (offset + m) k delivered read size
  later_sent t m offset k delivered read size j =
      goes_on _ _ (offset + m) j tt (rw (later_part, in_room j, j.joined, longer_last, take-add))

  -- ---- ask
  -- what is carried after a command
  pub sent : (c : Connection) → Carries a got c → {s : State} {m : ℕ} {o : Outgoing} → Given c s m o
      → Carried a (joined_by got (sent_of a.room o ∷ [])) s c.job.loaded m c.job.cursor c.job.delivered c.job.pending_read
      c.job.size
  sent c i (opening f e) = rw e at i
  sent c i (first {t} f e l) =
      let j : Carried a got State.Established (Some t) _ _ _ _ _ = rw (e, l) at i in rw l (first_sent c.job.mode t _ _ _ _ _ _ j)
  sent c i (reading f e l p) = cc (p, i.writes)
  sent c i (next f e) = absurd (rw e at i.sending)
  sent c i (later {t} f e l) =
      let j : Carried a got State.DownloadInProgress (Some t) _ _ _ _ _ = rw (e, l) at i in rw l (later_sent t _ _ _ _ _ _ j)
