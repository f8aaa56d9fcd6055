-- A reply keeps what is carried: one that is accepted after everything was sent puts the loaded entry among those before, and loads the
-- next one or ends the job; nothing else that it changes matters.
use Rattle.std.specs.Prelude.{Option, Some, None}
use Rattle.codec.specs.declared.request.ReadByIndexRequest.{ReadByIndexRequest}
use Rattle.codec.specs.declared.dcf.Transfer.{Transfer}
use Rattle.con_rec.specs.declared.Reason.{Reason}
use Prim.Native.Nat.{ℕ, suc, ◌+◌, ◌≤◌, ◌<◌}
use native.Mathlib.Omega.{arith}
use mathlib.Core.Path.{◌≡◌, sym, ◌∙◌, ap, subst}
use mathlib.Core.List.{List, [], ◌∷◌, ◌++◌, append_assoc, append-nil}
use lib.ListN.{length, take, length-append}
use borrow.Author.Tests.{lt-ltb}
use Rattle.laws.specs.Pick.{pick}
use Rattle.codec.specs.Bytes.{Bytes}
use Rattle.codec.specs.Dcf.{dcf_step}
use Rattle.codec.proofs.Entries.{Stepped as Found, stepped}
use Rattle.con_rec.specs.Parts.{wire, total}
use Rattle.con_reply.specs.Reply.{with_job, one_more, delivered_one, reply_next}
use Rattle.connection.specs.Types.{
  DcfCursor,
  DcfStep,
  Reason,
  SdoClientConnection as Connection,
  SdoClientConnectionState as State,
  Transfer,
}
use Rattle.con_reply.proofs.JobCarried.{Aim, Carried, Left, rest, goes_on, leave, over}
use Rattle.con_rec.proofs.Wires.{all_sent}

module _ (a : Aim) (got : List Bytes) where
  -- ---- everything was sent
  -- the figure never stops at its largest value
  pub one_more_lem : {s : State} {t : Transfer} {offset : ℕ} {k : DcfCursor} {delivered : ℕ} {read : Option ReadByIndexRequest} {size : ℕ}
      → Carried a got s (Some t) offset k delivered read size → one_more delivered ≡ suc delivered
  unfolding pick
  one_more_lem {delivered} j =
      let known : length a.entries ≡ _ = ap length j.known in
      let below : delivered < 4294967295 = omega (arith, j.few, j.figure, rw length-append at known) in
      rw (lt-ltb delivered 4294967295 below) (omega arith)

  -- no entry is left: what was joined is all of them
  last_sent : {t : Transfer} {offset : ℕ} {k : DcfCursor} {delivered : ℕ} {read : Option ReadByIndexRequest} {size : ℕ}
      → Carried a got State.DownloadInProgress (Some t) offset k delivered read size → total t ≤ offset
      → rest a.job k ≡ []
      → (got ≡ a.entries) × (one_more delivered ≡ length a.entries) × (a.count ≡ length a.entries + k.left)
  last_sent {t} {offset} j h e = (
    rw (j.joined, j.known, e, all_sent a.job t offset h),
    one_more_lem j ∙ rw (j.known, e, length-append) (omega (arith, j.figure)),
    rw (j.known, e, length-append) (omega (arith, j.counted)),
  )

  reply_next_lem : (c : Connection) (t : Transfer) → c.outcome ≡ None
      → Carried a got State.DownloadInProgress (Some t) c.job.offset c.job.cursor c.job.delivered
      c.job.pending_read c.job.size
      → total t ≤ c.job.offset → (d : DcfStep) → Found a.job c.job.cursor.at c.job.cursor.left d
      → Left a got (reply_next d c)
  reply_next_lem c t r j h (DcfStep.Entry entry next) st =
      leave a got (reply_next (DcfStep.Entry entry next) c) r
      (record {
        before = j.before ++ (wire a.job t ∷ []);
        joined = rw (j.joined, all_sent a.job t c.job.offset h, append-nil);
        known = rw (j.known, st.0, append_assoc);
        counted = rw length-append (omega (arith, j.counted, st.1));
        figure = one_more_lem j ∙ rw length-append (omega (arith, j.figure));
        none = tt;
        sending = tt;
        within = st.2;
        few = j.few;
        writes = j.writes;
        holds = j.holds;
      })
  reply_next_lem c t r j h DcfStep.End st =
      let all = last_sent j h st.0 in
      over a got (with_job c (delivered_one c.job)) Reason.Complete (all.0, all.1, omega (arith, all.2, st.1))
  reply_next_lem c t r j h DcfStep.Unreadable st =
      let all = last_sent j h st.0 in
      over a got (with_job c (delivered_one c.job)) _ (all.0, all.1, omega (arith, all.2, st.1))

  pub next_left : (c : Connection) (t : Transfer) → c.outcome ≡ None
      → Carried a got State.DownloadInProgress (Some t) c.job.offset c.job.cursor c.job.delivered
      c.job.pending_read c.job.size
      → total t ≤ c.job.offset → Left a got (reply_next (dcf_step (take c.job.size a.room) c.job.cursor) c)
  next_left c t r j h = reply_next_lem c t r j h (dcf_step (take c.job.size a.room) k) found
    where
      k : DcfCursor
      k = c.job.cursor

      found : Found a.job k.at k.left (dcf_step (take c.job.size a.room) k)
      found = subst (λ (b : Bytes). Found a.job k.at k.left (dcf_step b k)) (sym j.holds) (stepped a.job k)

  -- ---- Opening
  pub opened : {t : Option Transfer} {offset : ℕ} {k : DcfCursor} {delivered : ℕ} {read : Option ReadByIndexRequest} {size : ℕ}
      → Carried a got State.Opening t offset k delivered read size → Carried a got State.Established t offset k delivered read size
  opened j = goes_on got State.Established _ j tt j.joined
