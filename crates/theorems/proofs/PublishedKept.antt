-- In published mode no Complete that brings bytes follows an Expedited. What is kept: where the last command was Expedited and a transfer is under way, all
-- of it was sent, so that a Complete has nothing left to bring.
use Rattle.std.specs.Prelude.{Option, Some, None, Result, Ok, Err}
use Prim.Native.Nat.{ℕ, ◌+◌, ◌-◌, ◌≤◌}
use native.Mathlib.Omega.{arith}
use mathlib.Core.Path.{◌≡◌, refl, subst, ◌∙◌}
use mathlib.Core.Bool.{Bool, true, false}
use mathlib.Core.List.{List, [], ◌∷◌, ◌++◌}
use lib.Dec.{leb}
use lib.ListN.{length, take}
use Rattle.laws.proofs.Choices.{either}
use Rattle.codec.specs.Bytes.{Bytes, placed}
use Rattle.codec.specs.Dcf.{dcf_step}
use Rattle.con_rec.proofs.PublishedParts.{expedited_within, first_not_complete, later_not_expedited}
use Rattle.con_rec.specs.Parts.{first_kind, limit, part_length, total}
use Rattle.con_reply.proofs.ReplyCases.{in_by}
use Rattle.con_reply.specs.Consistent.{is_downloading}
use Rattle.con_reply.specs.Reply.{in_state, reply_in, reply_next, reply_sent, with_bytes}
use Rattle.con_reply.specs.Sent.{Sent, sent_of}
use Rattle.connection.proofs.TurnView.{Given, first, later, next, opening, reading}
use Rattle.connection.specs.Ask.{with_offset}
use Rattle.connection.specs.Start.{dcf_job, first_cursor, is_idle}
use Rattle.manager.specs.Calls.{Job, loads, mode_of, reads, writes}
use Rattle.theorems.specs.Figures.{entries_in}
use Rattle.theorems.specs.Published.{EmptyAfter, OnlyEmpty, OnlyEmptyFollows}
use Rattle.theorems.specs.Run.{Event, Host, run}
use Rattle.theorems.specs.Story.{Log, Story, accepted, asked, follow, untold}
use Rattle.theorems.specs.Types.{
  Answer,
  DcfStep,
  Mode,
  Now,
  Outgoing,
  Reason,
  Refusal,
  SdoClientConnection as Connection,
  SdoClientConnectionState as State,
  SdoJob,
  Segmentation,
  SequenceLayerHeader,
  Transfer,
}
use Rattle.theorems.proofs.Followed.{Brings}
use Rattle.theorems.proofs.JobKept.{Decides, Ending, Kept, Leaves, Running, opens}
use Rattle.theorems.proofs.JobStarted.{after, brings, start, started}
use Rattle.theorems.proofs.JobStarts.{began, begun_job}
use Rattle.theorems.proofs.NodeView.{gave_by}

-- ---- the last of what was sent
abbrev Last : (Sent → Type 0) → List Sent → Type 0
Last P [] = Unit {0}
Last P (s ∷ []) = P s
Last P (s ∷ t ∷ more) = Last P (t ∷ more)

last_is : (P : Sent → Type 0) (l : List Sent) (t : Sent) → P t → Last P (l ++ (t ∷ []))
last_is P [] t p = p
last_is P (s ∷ []) t p = p
last_is P (s ∷ u ∷ l) t p = last_is P (u ∷ l) t p

last_by_lem : {P Q : Sent → Type 0} (l : List Sent) → ((s : Sent) → P s → Q s) → Last P l → Last Q l
last_by_lem [] f h = tt
last_by_lem (s ∷ []) f h = f s h
last_by_lem (s ∷ u ∷ l) f h = last_by_lem (u ∷ l) f h

any_last : {P : Sent → Type 0} (l : List Sent) → ((s : Sent) → P s) → Last P l
any_last [] f = tt
any_last (s ∷ []) f = f s
any_last (s ∷ u ∷ l) f = any_last (u ∷ l) f

one_more_lem : (l : List Sent) (t : Sent) → OnlyEmpty l → Last (λ (s : Sent). EmptyAfter s t) l → OnlyEmpty (l ++ (t ∷ []))
one_more_lem [] t e h = tt
one_more_lem (s ∷ []) t e h = (h, tt)
one_more_lem (s ∷ u ∷ l) t e h = (e.0, one_more_lem (u ∷ l) t e.1 h)

-- ---- what is kept
-- all of the loaded transfer was sent
abbrev Whole : SdoJob → Type 0
Whole j = (t : Transfer) → j.loaded ≡ Some t → total t ≤ j.offset

abbrev Ready : List Sent → State → SdoJob → Type 0
Ready asks x j = x ≡ State.DownloadInProgress → Last (λ (s : Sent). s.kind ≡ Segmentation.Expedited → Whole j) asks

record Following (asks : List Sent) (x : State) (j : SdoJob) : Type 0 where
  published : j.mode ≡ Mode.Published
  works : is_idle x ≡ false
  follows : OnlyEmpty asks
  ready : Ready asks x j

abbrev Runs-so : Running
Runs-so s room x j = Following s.asks x j

abbrev Ends-so : Ending
Ends-so s room why j = OnlyEmpty s.asks

-- in another state nothing of a transfer is under way
elsewhere : {asks : List Sent} {x : State} {j : SdoJob} → is_downloading x ≡ false → is_idle x ≡ false → j.mode ≡ Mode.Published
    → OnlyEmpty asks → Following asks x j
elsewhere apart w p f =
    record { published = p; works = w; follows = f; ready = λ e. cc }

-- a command that is no Complete may follow anything
other : (s : Story) (t : Sent) → (t.kind ≡ Segmentation.Complete → ⊥) → OnlyEmpty s.asks → OnlyEmpty (s.asks ++ (t ∷ []))
other s t no-complete f = one_more_lem s.asks t f (any_last s.asks (λ u e g. absurd (no-complete g)))

given : (s : Story) (room : Bytes) (c : Connection) {x : State} {n : ℕ} {o : Outgoing} → Given c x n o → Runs-so s room c.state c.job
    → Runs-so (asked s (gave_by room (Some o))) room x (with_offset c.job n)
given s room c {o = o} (opening f e) h = elsewhere refl refl h.published (other s (sent_of room o) (λ e. cc) h.follows)
given s room c {o = o} (reading f e l p) h = elsewhere refl refl h.published (other s (sent_of room o) (λ e. cc) h.follows)
given s room c {o = o} (next f e) h = elsewhere refl refl h.published (other s (sent_of room o) (λ e. cc) h.follows)
given s room c {o = o} (first {t} f e l) h =
    record {
      published = h.published;
      works = refl;
      follows = other s (sent_of room o) (first_not_complete c.job.mode (total t)) h.follows;
      ready = λ z. last_is _ s.asks (sent_of room o) (λ k u g. let same : t ≡ u = cc in subst (λ (v : Transfer). total v ≤ part_length (total t)) same (all k));
    }
  where
    all : first_kind c.job.mode (total t) ≡ Segmentation.Expedited → total t ≤ part_length (total t)
    all k = let w : total t ≤ limit Mode.Published = rw h.published at (expedited_within c.job.mode (total t) k) in omega arith
given s room c {o = o} (later {t} f e l) h =
    record {
      published = h.published;
      works = refl;
      follows = one_more_lem s.asks (sent_of room o) h.follows (last_by_lem s.asks (λ u w k z. nothing_left (w k t l)) (h.ready e));
      ready = λ z. last_is _ s.asks (sent_of room o) (λ k. absurd (later_not_expedited (total t - c.job.offset) k));
    }
  where
    nothing_left : total t ≤ c.job.offset → (sent_of room o).payload ≡ []
    nothing_left w = let z : part_length (total t - c.job.offset) ≡ 0 = omega arith in rw z refl

-- ---- a reply that is accepted: nothing more was sent
module _ (entries : List Bytes) where
  same_asks : (b : Bool) (s : Story) (kind : Segmentation) (payload : Bytes) → s.asks ≡ (accepted entries b s kind payload).asks
  same_asks true s kind payload = refl
  same_asks false s kind payload = refl

  module _ (s t : Story) (same : s.asks ≡ t.asks) (room : Bytes) (c : Connection) (r : c.outcome ≡ None)
      (h : Runs-so s room c.state c.job) where
    empty : OnlyEmpty t.asks
    empty = subst OnlyEmpty same h.follows

    on : (to : Bytes) (d : Connection) → d.outcome ≡ None → Runs-so t to d.state d.job → Leaves Runs-so Ends-so t to d
    on to d e i = rw e i

    stays : Runs-so t room c.state c.job
    stays = subst (λ (l : List Sent). Following l c.state c.job) same h

    next_left : (x : DcfStep) → Leaves Runs-so Ends-so t room (reply_next x c)
    next_left (DcfStep.Entry entry more) =
        on room (reply_next (DcfStep.Entry entry more) c) r (elsewhere refl refl h.published empty)
    next_left DcfStep.End = empty
    next_left DcfStep.Unreadable = empty

    sent_left : (x : Option Transfer) → Leaves Runs-so Ends-so t room (reply_sent x room c)
    sent_left (Some u) =
        either (Leaves Runs-so Ends-so t room) (leb (total u) c.job.offset) _ c
        (next_left (dcf_step (take c.job.size room) c.job.cursor)) (on room c r stays)
    sent_left None = on room c r stays

    taken : (seq : SequenceLayerHeader) (kind : Segmentation) (payload : Bytes)
        → Decides Runs-so Ends-so t payload room (reply_in c.state seq kind c (length payload) room)
    taken seq kind payload =
        in_by c (length payload) room (Decides Runs-so Ends-so t payload room)
        (record {
          out_of_place = empty;
          opened = λ e. on room (in_state c State.Established) r (elsewhere refl refl h.published empty);
          refused = empty;
          sent = λ e. sent_left c.job.loaded;
          uploads = λ e. on room (in_state (with_bytes c 0) State.UploadInProgress) r (elsewhere refl refl h.published empty);
          bad = empty;
          more = λ f from w. on (placed room from payload) (with_bytes c (from + length payload)) r
              (record { published = h.published; works = h.works; follows = empty; ready = stays.ready });
          last = λ f from w. empty;
          full = λ f. tt;
        })
        seq kind c.state refl

  kept : Kept entries Runs-so Ends-so
  kept =
      record {
        works = λ s room x j h. h.works;
        hears = λ s room x j h. h;
        breaks = λ s room x j h why b. h.follows;
        gives = given;
        finishes = λ s room c e l p h. h.follows;
        takes = λ s room c seq kind payload l r m h.
            taken s (accepted entries (opens c.state) s kind payload) (same_asks (opens c.state) s kind payload) room c r h seq kind payload;
      }

-- ---- the start: its job is in the mode that it chooses
begun_mode : (job : Job) → (begun_job job).mode ≡ mode_of job
begun_mode (writes mode index sub bytes) = refl
begun_mode (reads mode index sub) = refl
begun_mode (loads mode dcf) = go (dcf_step dcf (first_cursor dcf))
  where
    go : (x : DcfStep) → (dcf_job mode x (length dcf) (first_cursor dcf)).mode ≡ mode
    go (DcfStep.Entry entry more) = refl
    go DcfStep.End = refl
    go DcfStep.Unreadable = refl

module _ (lent : Bytes) (earlier : List Event) (node : ℕ) (job : Job) (now : Now) (m : mode_of job ≡ Mode.Published)
    (e : (start lent earlier node job now).done.answer ≡ Answer.Nothing) where
  abbrev So : Result Connection Refusal → Type 0
  So (Ok d) = Following [] d.state d.job
  So (Err r) = Unit {0}

  begins : So (Ok (started lent earlier node job now e).begun)
  begins =
      let s = started lent earlier node job now e in
      subst So (began job s.before s.begun s.number now s.room s.is).2
      (elsewhere refl refl (begun_mode job ∙ m) tt)

  module _ (xs : List Event) where
    abbrev log : Log
    log = follow (entries_in job) node untold (after lent earlier node job now) xs

    abbrev host : Host
    host = run (after lent earlier node job now) xs

    follows_so : OnlyEmpty log.story.asks
    follows_so =
        go log.outcome (brings lent earlier node job now e (entries_in job) Runs-so Ends-so (kept (entries_in job)) begins xs)
      where
        go : (x : Option Reason)
            → Brings (entries_in job) Runs-so Ends-so (kept (entries_in job)) node (record { story = log.story; outcome = x; figure = log.figure }) host
            → OnlyEmpty log.story.asks
        go None b = b.on.is.follows
        go (Some why) b = b.over.ends

pub only_empty_follows : OnlyEmptyFollows
unfolding OnlyEmptyFollows
only_empty_follows lent earlier node job now xs m e = follows_so lent earlier node job now m e xs
