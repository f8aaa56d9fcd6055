-- What is carried from call to call of a job that sends: what was joined so far is the entries before, whole, and the sent part of the
-- loaded one; the entries are these, the loaded one, and those that are readable from the cursor on.
use Rattle.std.specs.Prelude.{Option, Some, None}
use Rattle.codec.specs.declared.request.ReadByIndexRequest.{ReadByIndexRequest}
use Rattle.codec.specs.declared.dcf.Transfer.{Transfer}
use Rattle.con_rec.specs.declared.Reason.{Reason}
use Prim.Native.Nat.{ℕ, ◌+◌, ◌≤◌}
use mathlib.Core.Path.{◌≡◌, refl, ap, subst}
use mathlib.Core.Bool.{Bool, true, false}
use mathlib.Core.List.{List, [], ◌∷◌, ◌++◌}
use lib.ListN.{length, take}
use Rattle.codec.specs.Bytes.{Bytes}
use Rattle.codec.specs.Dcf.{entries_from}
use Rattle.con_reply.specs.Consistent.{LiesIn}
use Rattle.con_reply.specs.Delivery.{is_opening, unless, pieces_after, without_openings, Beginning, nothing, part, whole, ForEnd}
use Rattle.con_reply.specs.Sent.{Sent}
use Rattle.con_rec.specs.Parts.{wire}
use Rattle.con_rec.specs.Record.{ended}
use Rattle.connection.specs.Types.{
  DcfCursor,
  Reason,
  SdoClientConnection as Connection,
  SdoClientConnectionState as State,
}

-- what a job is to bring: the room that it lies in, its own bytes, its readable entries, and how many are counted
pub record Aim : Type 0 where
  pub room : Bytes
  pub job : Bytes
  pub entries : List Bytes
  pub count : ℕ

-- the loaded transfer, and the part of it that was sent
abbrev pub loaded : Bytes → Option Transfer → List Bytes
loaded job None = []
loaded job (Some t) = wire job t ∷ []

abbrev pub begun_of : Bytes → Option Transfer → ℕ → List Bytes
begun_of job None offset = []
begun_of job (Some t) offset = take offset (wire job t) ∷ []

abbrev pub begun : Bytes → State → Option Transfer → ℕ → List Bytes
begun job State.Idle t offset = []
begun job State.Opening t offset = []
begun job State.Established t offset = []
begun job State.UploadInit t offset = []
begun job State.UploadInProgress t offset = []
begun job State.DownloadInProgress t offset = begun_of job t offset
begun job State.Closed t offset = []

-- the entries that are readable from a cursor on
abbrev pub rest : Bytes → DcfCursor → List Bytes
rest job k = entries_from k.left job k.at

-- where nothing is loaded, nothing can be read any more
abbrev pub NoMore : Bytes → Option Transfer → DcfCursor → Type 0
NoMore job None k = rest job k ≡ []
NoMore job (Some t) k = Unit {0}

-- a write or a DCF that runs never comes to an upload, and is neither Idle nor Closed
abbrev pub Sending : State → Type 0
Sending State.Idle = ⊥
Sending State.Opening = Unit {0}
Sending State.Established = Unit {0}
Sending State.UploadInit = ⊥
Sending State.UploadInProgress = ⊥
Sending State.DownloadInProgress = Unit {0}
Sending State.Closed = ⊥

pub record Carried (a : Aim) (got : List Bytes) (s : State) (t : Option Transfer) (offset : ℕ) (k : DcfCursor) (delivered : ℕ)
    (read : Option ReadByIndexRequest) (size : ℕ) : Type 0 where
  pub before : List Bytes
  pub joined : got ≡ before ++ begun a.job s t offset
  pub known : a.entries ≡ before ++ (loaded a.job t ++ rest a.job k)
  pub counted : a.count ≡ length before + (length (loaded a.job t) + k.left)
  pub figure : delivered ≡ length before
  pub none : NoMore a.job t k
  pub sending : Sending s
  pub within : LiesIn (length a.job) t
  -- only because the figure has 32 bits
  pub few : length a.entries ≤ 4294967295
  pub writes : read ≡ None
  pub holds : take size a.room ≡ a.job

-- of a connection, only these fields matter
abbrev pub Carries : Aim → List Bytes → Connection → Type 0
Carries a got c =
    Carried a got c.state c.job.loaded c.job.offset c.job.cursor c.job.delivered c.job.pending_read
    c.job.size

-- the same in another state, with so much of the loaded transfer sent
pub goes_on : {a : Aim} {got : List Bytes} {s : State} {t : Option Transfer} {offset : ℕ} {k : DcfCursor} {delivered : ℕ} {read : Option ReadByIndexRequest}
    {size : ℕ} (more : List Bytes) (next : State) (sent : ℕ) (j : Carried a got s t offset k delivered read size) → Sending next
    → more ≡ j.before ++ begun a.job next t sent → Carried a more next t sent k delivered read size
goes_on more next sent j works e =
    record {
      before = j.before;
      joined = e;
      known = j.known;
      counted = j.counted;
      figure = j.figure;
      none = j.none;
      sending = works;
      within = j.within;
      few = j.few;
      writes = j.writes;
      holds = j.holds;
    }

-- what a call must leave: the same of the connection after it, or what demand 3 asks for where the job ended
abbrev pub Leaves : Aim → List Bytes → Connection → Option Reason → Type 0
Leaves a got c None = Carries a got c
Leaves a got c (Some why) = ForEnd a.entries a.count got why c.job.delivered

unfoldable pub Left : Aim → List Bytes → Connection → Type 0
Left a got c = Leaves a got c c.outcome

-- the connection runs on, and the job ends
pub leave : (a : Aim) (got : List Bytes) (c : Connection) → c.outcome ≡ None → Carries a got c → Left a got c
unfolding Left
leave a got c e i = rw e i

pub over : (a : Aim) (got : List Bytes) (c : Connection) (why : Reason) → ForEnd a.entries a.count got why c.job.delivered
    → Left a got (ended c why)
unfolding Left
over a got c why h = h

-- what was joined, with some commands more
abbrev pub joined_by : List Bytes → List Sent → List Bytes
joined_by got sent = pieces_after got (without_openings sent)

without_both : (k l : List Sent) → without_openings (k ++ l) ≡ without_openings k ++ without_openings l
without_both [] l = refl
without_both (s ∷ k) l = go (is_opening s.id) (without_both k l)
  where
    go : (b : Bool) → without_openings (k ++ l) ≡ without_openings k ++ without_openings l
        → unless b s (without_openings (k ++ l)) ≡ unless b s (without_openings k) ++ without_openings l
    go true e = e
    go false e = ap (λ (r : List Sent). s ∷ r) e

after_both : (got : List Bytes) (k l : List Sent) → pieces_after got (k ++ l) ≡ pieces_after (pieces_after got k) l
after_both got [] l = refl
after_both got (s ∷ k) l = after_both _ k l

pub joined_both : (got : List Bytes) (k l : List Sent) → joined_by got (k ++ l) ≡ joined_by (joined_by got k) l
joined_both got k l = rw (without_both k l) (after_both got (without_openings k) (without_openings l))

-- ---- at any moment, what was joined is a beginning of the entries
begins : (ws ps es : List Bytes) → Beginning ps es → Beginning (ws ++ ps) (ws ++ es)
begins [] ps es h = h
begins (w ∷ ws) ps es h = whole (begins ws ps es h)

begun_begins : (job : Bytes) (s : State) (t : Option Transfer) (offset : ℕ) (more : List Bytes)
    → Beginning (begun job s t offset) (loaded job t ++ more)
begun_begins job State.Idle t offset more = nothing
begun_begins job State.Opening t offset more = nothing
begun_begins job State.Established t offset more = nothing
begun_begins job State.UploadInit t offset more = nothing
begun_begins job State.UploadInProgress t offset more = nothing
begun_begins job State.DownloadInProgress None offset more = nothing
begun_begins job State.DownloadInProgress (Some t) offset more = part offset refl
begun_begins job State.Closed t offset more = nothing

pub beginning : {a : Aim} {got : List Bytes} {s : State} {t : Option Transfer} {offset : ℕ} {k : DcfCursor} {delivered : ℕ}
    {read : Option ReadByIndexRequest} {size : ℕ} → Carried a got s t offset k delivered read size → Beginning got a.entries
beginning {a} {s} {t} {offset} {k} i =
    rw (i.joined, i.known)
    (begins i.before (begun a.job s t offset) (loaded a.job t ++ rest a.job k)
    (begun_begins a.job s t offset (rest a.job k)))

-- Ask never needs the repository's self-call, which loads the next entry where nothing is loaded: nothing is readable from the cursor in
-- the job's own bytes any more.
pub self_call_never : (a : Aim) (got : List Bytes) (c : Connection) → Carries a got c → c.job.loaded ≡ None
    → rest (take c.job.size a.room) c.job.cursor ≡ []
self_call_never a got c i e = rw i.holds (subst (λ (x : Option Transfer). NoMore a.job x c.job.cursor) e i.none)
