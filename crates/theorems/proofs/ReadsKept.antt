-- A read, followed: its figure stays 0, and the first bytes of its room are what its accepted replies brought; kept by each step of its connection.
use Rattle.std.specs.Prelude.{Option, Some, None}
use Prim.Native.Nat.{ℕ, ◌+◌, ◌≤◌}
use mathlib.Core.Path.{◌≡◌, refl, subst}
use mathlib.Core.Bool.{false}
use mathlib.Core.List.{List, [], ◌∷◌}
use lib.Dec.{leb}
use lib.ListN.{length, take}
use Rattle.laws.specs.Pick.{pick}
use Rattle.laws.proofs.Choices.{either}
use Rattle.codec.specs.Bytes.{Bytes, placed}
use Rattle.con_reply.proofs.UploadJoined.{Holds, Joins, first_joined, more_joined}
use Rattle.con_reply.specs.Consistent.{LoadsIn}
use Rattle.con_reply.specs.Delivery.{pieces}
use Rattle.con_reply.specs.Reply.{in_state, receive_initializes, reply_first, reply_in, reply_more, room_for, send_initializes, stored_last, stored_more, with_bytes}
use Rattle.con_reply.specs.Uploaded.{joined}
use Rattle.con_rec.specs.Record.{ended}
use Rattle.connection.proofs.TurnView.{Given, first, later, next, opening, reading}
use Rattle.connection.specs.Ask.{with_offset}
use Rattle.connection.specs.Start.{is_idle}
use Rattle.theorems.specs.Story.{Story, accepted, answered, asked, wholly}
use Rattle.theorems.specs.Types.{
  Decision,
  Outgoing,
  Reason,
  SdoClientConnection as Connection,
  SdoClientConnectionState as State,
  SdoJob,
  Segmentation,
  SequenceLayerHeader,
}
use Rattle.theorems.proofs.JobKept.{Breaks, Decides, Ending, Kept, Leaves, MayWait, Running, opens}
use Rattle.theorems.proofs.NodeView.{gave_by}

-- ---- a read has no entries, so none is wholly sent
none_whole : (sent : List Bytes) → wholly [] sent ≡ false
none_whole [] = refl
none_whole (p ∷ ps) = refl

abbrev Reads : State → Type 0
Reads State.Idle = ⊥
Reads State.Opening = Unit {0}
Reads State.Established = Unit {0}
Reads State.UploadInit = Unit {0}
Reads State.UploadInProgress = Unit {0}
Reads State.DownloadInProgress = ⊥
Reads State.Closed = ⊥

working : (x : State) → Reads x → is_idle x ≡ false
working State.Idle h = absurd h
working State.Opening h = refl
working State.Established h = refl
working State.UploadInit h = refl
working State.UploadInProgress h = refl
working State.DownloadInProgress h = absurd h
working State.Closed h = absurd h

-- what a read that ended Complete leaves
abbrev pub AtComplete : Reason → Type 0 → Type 0
AtComplete Reason.Complete holds = holds
AtComplete Reason.Cut holds = Unit {0}
AtComplete Reason.OpenRefused holds = Unit {0}
AtComplete Reason.Sequence holds = Unit {0}
AtComplete (Reason.PeerAborted code) holds = Unit {0}
AtComplete Reason.Timeout holds = Unit {0}
AtComplete Reason.BadSegment holds = Unit {0}

module _ (index sub : ℕ) where
  pub record Reading (told : ℕ) (brought room : Bytes) (x : State) (j : SdoJob) : Type 0 where
    pub reads : Reads x
    pub pending : j.pending_read ≡ Some (record { index = index; sub_index = sub })
    pub unloaded : j.loaded ≡ None
    pub left : j.cursor.left ≡ 0
    pub figure : j.delivered ≡ 0
    pub counts : told ≡ 0
    pub fits : j.uploaded ≤ length room
    pub bytes : take j.uploaded room ≡ brought

  abbrev pub ReadsRun : Running
  ReadsRun s room x j = Reading s.delivered s.brought room x j

  abbrev pub ReadsEnd : Ending
  ReadsEnd s room why j =
      (j.delivered ≡ 0)
      × (s.delivered ≡ 0)
      × AtComplete why ((j.uploaded ≤ length room) × (take j.uploaded room ≡ s.brought))

  abbrev Left-so : Story → Bytes → Connection → Type 0
  Left-so = Leaves ReadsRun ReadsEnd

  runs_on : (s : Story) (room : Bytes) (d : Connection) → d.outcome ≡ None → ReadsRun s room d.state d.job → Left-so s room d
  runs_on s room d e h = rw e h

  breaks_so : (s : Story) (room : Bytes) (j : SdoJob) → j.delivered ≡ 0 → s.delivered ≡ 0 → (why : Reason) → Breaks why → ReadsEnd s room why j
  breaks_so s room j f t Reason.Complete b = absurd b
  breaks_so s room j f t Reason.Cut b = absurd b
  breaks_so s room j f t Reason.OpenRefused b = (f, t, tt)
  breaks_so s room j f t Reason.Sequence b = (f, t, tt)
  breaks_so s room j f t (Reason.PeerAborted code) b = (f, t, tt)
  breaks_so s room j f t Reason.Timeout b = (f, t, tt)
  breaks_so s room j f t Reason.BadSegment b = (f, t, tt)

  -- ---- ask
  -- the same in another state
  moved : {told : ℕ} {brought room : Bytes} {x : State} {j : SdoJob} (y : State) (sent : ℕ) → Reads y → Reading told brought room x j
      → Reading told brought room y (with_offset j sent)
  moved y sent w h =
      record {
        reads = w;
        pending = h.pending;
        unloaded = h.unloaded;
        left = h.left;
        figure = h.figure;
        counts = h.counts;
        fits = h.fits;
        bytes = h.bytes;
      }

  given : (s : Story) (room : Bytes) (c : Connection) {x : State} {n : ℕ} {o : Outgoing} → Given c x n o → ReadsRun s room c.state c.job
      → ReadsRun (asked s (gave_by room (Some o))) room x (with_offset c.job n)
  given s room c (opening f e) h = moved State.Opening _ tt h
  given s room c (first f e l) h = cc
  given s room c (reading f e l p) h = moved State.UploadInit _ tt h
  given s room c (next f e) h = moved State.UploadInProgress _ tt h
  given s room c (later f e l) h = cc

  -- ---- a reply that is accepted
  module _ (s : Story) (room : Bytes) (c : Connection) (r : c.outcome ≡ None) (h : ReadsRun s room c.state c.job)
      (payload : Bytes) where
    abbrev after : Segmentation → Story
    after kind = accepted [] false s kind payload

    counts : (kind : Segmentation) → (after kind).delivered ≡ 0
    unfolding pick
    counts kind = rw (none_whole (pieces s.asks)) h.counts

    -- the bytes that are there after it
    brings : (kind : Segmentation) (to : Bytes) (n : ℕ) (x : State) → Reads x → Holds (with_bytes c n) to (after kind).brought
        → Reading (after kind).delivered (after kind).brought to x (with_bytes c n).job
    brings kind to n x w g =
        record {
          reads = w;
          pending = h.pending;
          unloaded = h.unloaded;
          left = h.left;
          figure = h.figure;
          counts = counts kind;
          fits = g.0;
          bytes = g.1;
        }

    abbrev Decided : Segmentation → Decision → Type 0
    Decided kind x = Joins (after kind).brought payload room x → Decides ReadsRun ReadsEnd (after kind) payload room x

    bad : (kind : Segmentation) → Decided kind (Decision.Keeps (ended c Reason.BadSegment))
    bad kind g = breaks_so (after kind) room c.job h.figure (counts kind) Reason.BadSegment tt

    last_so : (kind : Segmentation) (from : ℕ) → Decided kind (stored_last (room_for from (length payload) room) c from)
    unfolding room_for
    last_so kind from =
        either (λ (x : Option ℕ). Decided kind (stored_last x c from)) (leb (from + length payload) (length room)) _ _
        (λ g. (h.figure, counts kind, g)) (λ g. tt)

    more_so : (kind : Segmentation) → c.state ≡ State.UploadInProgress → (from : ℕ)
        → Decided kind (stored_more (room_for from (length payload) room) c from)
    unfolding room_for
    more_so kind w from =
        either (λ (x : Option ℕ). Decided kind (stored_more x c from)) (leb (from + length payload) (length room)) _ _
        (λ g.
        runs_on (after kind) (placed room from payload) (with_bytes c (from + length payload)) r
        (rw w (brings kind (placed room from payload) (from + length payload) State.UploadInProgress tt g)))
        (λ g. tt)

    first_so : (kind : Segmentation) → Decided kind (reply_first kind c (length payload) room)
    first_so Segmentation.Expedited = last_so Segmentation.Expedited 0
    first_so Segmentation.Initiate =
        λ g.
        runs_on (after Segmentation.Initiate) room (in_state (with_bytes c 0) State.UploadInProgress) r
        (brings Segmentation.Initiate room 0 State.UploadInProgress tt (rw r at g))
    first_so Segmentation.Segment = bad Segmentation.Segment
    first_so Segmentation.Complete = bad Segmentation.Complete

    more : c.state ≡ State.UploadInProgress → (kind : Segmentation) → Decided kind (reply_more kind c (length payload) room)
    more w Segmentation.Expedited = bad Segmentation.Expedited
    more w Segmentation.Initiate = bad Segmentation.Initiate
    more w Segmentation.Segment = more_so Segmentation.Segment w c.job.uploaded
    more w Segmentation.Complete = last_so Segmentation.Complete c.job.uploaded

    more_joins : (kind : Segmentation) → Joins (after kind).brought payload room (reply_more kind c (length payload) room)
    more_joins kind =
        subst (λ (b : Bytes). Joins (joined kind b payload) payload room (reply_more kind c (length payload) room)) h.bytes
        (more_joined c payload room kind)

  takes : (s : Story) (room : Bytes) (c : Connection) (seq : SequenceLayerHeader) (kind : Segmentation) (payload : Bytes)
      → LoadsIn c.state c.job.loaded → c.outcome ≡ None → MayWait c.state → ReadsRun s room c.state c.job
      → Decides ReadsRun ReadsEnd (accepted [] (opens c.state) s kind payload) payload room
      (reply_in c.state seq kind c (length payload) room)
  takes s room c seq kind payload l r m h = go c.state refl m
    where
      refuses : Left-so (answered s) room (ended c Reason.OpenRefused)
      refuses = breaks_so (answered s) room c.job h.figure h.counts Reason.OpenRefused tt

      go : (x : State) → c.state ≡ x → MayWait x
          → Decides ReadsRun ReadsEnd (accepted [] (opens x) s kind payload) payload room (reply_in x seq kind c (length payload) room)
      go State.Idle e w = absurd w
      go State.Opening e w =
          either (Left-so (answered s) room) (receive_initializes seq.receive_con) _ _
          (either (Left-so (answered s) room) (send_initializes seq.send_con) _ _
          (runs_on (answered s) room (in_state c State.Established) r (moved State.Established c.job.offset tt h)) refuses)
          refuses
      go State.Established e w = absurd w
      go State.UploadInit e w = first_so s room c r h payload kind (first_joined c payload room r kind s.brought)
      go State.UploadInProgress e w = more s room c r h payload e kind (more_joins s room c r h payload kind)
      go State.DownloadInProgress e w = absurd (rw e at h.reads)
      go State.Closed e w = absurd w

  pub reads_kept : Kept [] ReadsRun ReadsEnd
  reads_kept =
      record {
        works = λ s room x j h. working x h.reads;
        hears = λ s room x j h. h;
        breaks = λ s room x j h. breaks_so s room j h.figure h.counts;
        gives = given;
        finishes = λ s room c e l p h. cc;
        takes = takes;
      }
