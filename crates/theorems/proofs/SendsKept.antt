-- A job that sends, followed: what is carried of it (con_reply's `Carried`) and its delivered figure are kept by each step of its connection.
use Rattle.std.specs.Prelude.{Option, Some, None}
use Prim.Native.Nat.{ℕ, ◌≤◌, ◌<◌}
use native.Mathlib.Omega.{arith}
use mathlib.Core.Path.{◌≡◌, refl, sym, ◌∙◌, subst}
use mathlib.Core.Bool.{true, false}
use mathlib.Core.List.{List, [], ◌∷◌, ◌++◌}
use lib.Dec.{eqb, leb}
use lib.ListN.{length, take, length-take}
use borrow.Author.Tests.{eq-eqb, leb-false, leb-true, ne_eqb}
use Rattle.laws.specs.Pick.{pick}
use Rattle.laws.proofs.Choices.{decided, either}
use Rattle.codec.specs.Bytes.{Bytes}
use Rattle.codec.specs.Dcf.{dcf_step}
use Rattle.con_rec.proofs.Wires.{wire_length}
use Rattle.con_rec.specs.Parts.{total, wire}
use Rattle.con_reply.proofs.JobCarried.{Aim, Carried, Leaves as LeavesAs, Left, Sending, beginning, joined_both}
use Rattle.con_reply.proofs.ReplyCarries.{next_left, one_more_lem, opened}
use Rattle.con_reply.proofs.StepCarries.{finished, sent}
use Rattle.con_reply.specs.Consistent.{LoadsIn}
use Rattle.con_reply.specs.Delivery.{ForEnd, pieces}
use Rattle.con_reply.specs.Reply.{in_state, one_more, receive_initializes, reply_in, reply_next, reply_sent, send_initializes}
use Rattle.con_reply.specs.Sent.{sent_of}
use Rattle.connection.proofs.TurnView.{Given}
use Rattle.connection.specs.Start.{is_idle}
use Rattle.theorems.specs.Story.{Story, accepted, answered, wholly}
use Rattle.theorems.specs.Types.{
  DcfStep,
  Outgoing,
  Reason,
  SdoClientConnection as Connection,
  SdoClientConnectionState as State,
  SdoJob,
  Segmentation,
  SequenceLayerHeader,
  Transfer,
}
use Rattle.theorems.proofs.JobKept.{Breaks, Decides, Ending, Kept, Leaves, LeavesBy, MayWait, Running, opens}

-- ---- the last piece is its entry, whole
wholly_last : (before : List Bytes) (w : Bytes) (more : List Bytes) (p : Bytes)
    → wholly (before ++ (w ∷ more)) (before ++ (p ∷ [])) ≡ eqb (length p) (length w)
wholly_last [] w more p = refl
wholly_last (b ∷ []) w more p = refl
wholly_last (b ∷ c ∷ before) w more p = wholly_last (c ∷ before) w more p

-- ---- a job that runs is neither Idle nor Closed
working : (x : State) → Sending x → is_idle x ≡ false
working State.Idle h = absurd h
working State.Opening h = refl
working State.Established h = refl
working State.UploadInit h = absurd h
working State.UploadInProgress h = absurd h
working State.DownloadInProgress h = refl
working State.Closed h = absurd h

module _ (a : Aim) where
  abbrev pub SendsRun : Running
  SendsRun s room x j =
      (room ≡ a.room)
      × Carried a (pieces s.asks) x j.loaded j.offset j.cursor j.delivered j.pending_read j.size
      × (s.delivered ≡ j.delivered)

  abbrev pub SendsEnd : Ending
  SendsEnd s room why j = ForEnd a.entries a.count (pieces s.asks) why j.delivered × (s.delivered ≡ j.delivered)

  abbrev Left-so : Story → Bytes → Connection → Type 0
  Left-so = Leaves SendsRun SendsEnd

  -- it goes on, or ends, with its figure
  runs_on : (s : Story) (room : Bytes) (d : Connection) → d.outcome ≡ None → SendsRun s room d.state d.job → Left-so s room d
  runs_on s room d e h = rw e h

  left_so : (s : Story) (room : Bytes) (d : Connection) → room ≡ a.room → Left a (pieces s.asks) d → s.delivered ≡ d.job.delivered
      → Left-so s room d
  unfolding Left
  left_so s room d at l f = go d.outcome l
    where
      go : (x : Option Reason) → LeavesAs a (pieces s.asks) d x → LeavesBy SendsRun SendsEnd s room d x
      go None i = (at, i, f)
      go (Some why) i = (i, f)

  breaks : (s : Story) (room : Bytes) (x : State) (j : SdoJob) → SendsRun s room x j → (why : Reason) → Breaks why → SendsEnd s room why j
  breaks s room x j h Reason.Complete b = absurd b
  breaks s room x j h Reason.Cut b = absurd b
  breaks s room x j h Reason.OpenRefused b = (beginning h.1, h.2)
  breaks s room x j h Reason.Sequence b = (beginning h.1, h.2)
  breaks s room x j h (Reason.PeerAborted code) b = (beginning h.1, h.2)
  breaks s room x j h Reason.Timeout b = (beginning h.1, h.2)
  breaks s room x j h Reason.BadSegment b = (beginning h.1, h.2)

  given : (s : Story) (room : Bytes) (c : Connection) {x : State} {n : ℕ} {o : Outgoing} → Given c x n o → SendsRun s room c.state c.job
      → Carried a (pieces (s.asks ++ (sent_of room o ∷ []))) x c.job.loaded n c.job.cursor c.job.delivered c.job.pending_read
      c.job.size
  given s room c {x} {n} {o} g h =
      subst
      (λ (b : Bytes).
      Carried a (pieces (s.asks ++ (sent_of b o ∷ []))) x c.job.loaded n c.job.cursor c.job.delivered c.job.pending_read
      c.job.size)
      (sym h.0)
      (rw (joined_both [] s.asks (sent_of a.room o ∷ [])) (sent a (pieces s.asks) c h.1 g))

  -- ---- a reply that is accepted
  module _ (s : Story) (room : Bytes) (c : Connection) (r : c.outcome ≡ None) (h : SendsRun s room c.state c.job)
      (kind : Segmentation) (payload : Bytes) where
    abbrev t : Story
    t = accepted a.entries false s kind payload

    next_figure : (x : DcfStep) → (reply_next x c).job.delivered ≡ one_more c.job.delivered
    next_figure (DcfStep.Entry entry next) = refl
    next_figure DcfStep.End = refl
    next_figure DcfStep.Unreadable = refl

    module _ (x : Transfer)
        (i : Carried a (pieces s.asks) State.DownloadInProgress (Some x) c.job.offset c.job.cursor
        c.job.delivered c.job.pending_read c.job.size) where
      is_whole : wholly a.entries (pieces s.asks) ≡ eqb (length (take c.job.offset (wire a.job x))) (length (wire a.job x))
      is_whole = rw (i.known, i.joined) (wholly_last i.before (wire a.job x) _ _)

      long : length (wire a.job x) ≡ total x
      long = wire_length a.job x i.within

      short : length (take c.job.offset (wire a.job x)) ≡ length (wire a.job x) → total x ≤ c.job.offset
      short e = omega (arith, e, long, length-take c.job.offset (wire a.job x))

      as_long : total x ≤ c.job.offset → length (take c.job.offset (wire a.job x)) ≡ length (wire a.job x)
      as_long q = omega (arith, long, length-take c.job.offset (wire a.job x))

      all : total x ≤ c.job.offset → Left-so t room (reply_next (dcf_step (take c.job.size room) c.job.cursor) c)
      unfolding pick
      all q =
          let w : wholly a.entries (pieces s.asks) ≡ true =
          is_whole ∙ eq-eqb _ _ (as_long q) in
          let f : t.delivered ≡ one_more c.job.delivered = rw w (omega (arith, h.2, one_more_lem a (pieces s.asks) i)) in
          left_so t room _ h.0
          (subst (λ (b : Bytes). Left a (pieces s.asks) (reply_next (dcf_step (take c.job.size b) c.job.cursor) c)) (sym h.0)
          (next_left a (pieces s.asks) c x r i q))
          (f ∙ sym (next_figure (dcf_step (take c.job.size room) c.job.cursor)))

      not_long : c.job.offset < total x → length (take c.job.offset (wire a.job x)) ≡ length (wire a.job x) → ⊥
      not_long q e = omega (arith, short e)

      some : c.job.offset < total x → Left-so t room c
      unfolding pick
      some q =
          let w : wholly a.entries (pieces s.asks) ≡ false = is_whole ∙ ne_eqb _ _ (not_long q) in
          runs_on t room c r (h.0, h.1, rw w h.2)

    sent_so : c.state ≡ State.DownloadInProgress → LoadsIn c.state c.job.loaded → (x : Option Transfer) → c.job.loaded ≡ x
        → Left-so t room (reply_sent x room c)
    sent_so e l None f =
        let z : true ≡ false = subst (λ (y : State). LoadsIn y None) e (subst (LoadsIn c.state) f l) in cc
    sent_so e l (Some x) f =
        decided (Left-so t room) (leb (total x) c.job.offset) _ c (λ q. all x (rw (e, f) at h.1) (leb-true _ _ q))
        (λ q. some x (rw (e, f) at h.1) (leb-false _ _ q))

  takes : (s : Story) (room : Bytes) (c : Connection) (seq : SequenceLayerHeader) (kind : Segmentation) (payload : Bytes)
      → LoadsIn c.state c.job.loaded → c.outcome ≡ None → MayWait c.state → SendsRun s room c.state c.job
      → Decides SendsRun SendsEnd (accepted a.entries (opens c.state) s kind payload) payload room
      (reply_in c.state seq kind c (length payload) room)
  takes s room c seq kind payload l r m h = go c.state refl m
    where
      go : (x : State) → c.state ≡ x → MayWait x
          → Decides SendsRun SendsEnd (accepted a.entries (opens x) s kind payload) payload room (reply_in x seq kind c (length payload) room)
      go State.Idle e w = absurd w
      go State.Opening e w =
          either (Left-so (answered s) room) (receive_initializes seq.receive_con) _ _
          (either (Left-so (answered s) room) (send_initializes seq.send_con) _ _
          (runs_on (answered s) room (in_state c State.Established) r (h.0, opened a (pieces s.asks) (rw e at h.1), h.2))
          (breaks (answered s) room c.state c.job h Reason.OpenRefused tt))
          (breaks (answered s) room c.state c.job h Reason.OpenRefused tt)
      go State.Established e w = absurd w
      go State.UploadInit e w = absurd (rw e at h.1.sending)
      go State.UploadInProgress e w = absurd (rw e at h.1.sending)
      go State.DownloadInProgress e w = sent_so s room c r h kind payload e l c.job.loaded refl
      go State.Closed e w = absurd w

  pub sends_kept : Kept a.entries SendsRun SendsEnd
  sends_kept =
      record {
        works = λ s room x j h. working x h.1.sending;
        hears = λ s room x j h. h;
        breaks = breaks;
        gives = λ s room c g h. (h.0, given s room c g h, h.2);
        finishes = λ s room c e l p h. (finished a (pieces s.asks) c (rw (e, l) at h.1), h.2);
        takes = takes;
      }
