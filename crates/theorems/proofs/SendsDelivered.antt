-- A job that sends, of any calls: demand 3, its delivered figure, and that the repository's self-call is never taken.
use Rattle.std.specs.Prelude.{Option, Some, None, OnSome}
use Rattle.codec.specs.declared.request.ReadByIndexRequest.{ReadByIndexRequest}
use Prim.Native.Nat.{ℕ}
use native.Mathlib.Omega.{arith}
use mathlib.Core.Path.{◌≡◌, refl, sym, ◌∙◌, ap, subst}
use mathlib.Core.List.{List, [], ◌++◌}
use lib.ListN.{length, take, length-append}
use Rattle.codec.specs.Bytes.{Bytes, placed}
use Rattle.codec.specs.Dcf.{entries_from}
use Rattle.codec.specs.declared.dcf.DcfCursor.{DcfCursor}
use Rattle.con_reply.proofs.JobCarried.{Aim, Carried, beginning, begun, self_call_never}
use Rattle.con_reply.proofs.StartCarries.{Begun, aim_of, begun_job_lem}
use Rattle.con_reply.specs.Delivery.{For, ForEnd, pieces}
use Rattle.con_reply.specs.Jobs.{Job as Sending, bytes_of, counted, entries_of, loads as sends_dcf, start_of, writes as sends_write}
use Rattle.manager.specs.Calls.{job_room, start_job}
use Rattle.theorems.specs.Demand.{Demand3, job_of}
use Rattle.theorems.specs.Quiet.{Held, Holding, holding}
use Rattle.theorems.specs.Run.{Event, Host, run}
use Rattle.theorems.specs.Story.{Log, follow, untold}
use Rattle.theorems.specs.Types.{Answer, Now, Reason, SdoClientConnection as Connection, SdoClientConnectionState as State, Transfer}
use Rattle.theorems.proofs.Followed.{Brings}
use Rattle.theorems.proofs.SendsKept.{SendsEnd, SendsRun, sends_kept}
use Rattle.theorems.proofs.JobStarted.{after, brings, running, start, started}

-- ---- a job that sends
start_of_lem : (job : Sending) (c : Connection) (t : ℕ) (n : Now) (room : Bytes) → start_job (job_of job) c t n room ≡ start_of c t n job room
start_of_lem (sends_write mode index sub bytes) c t n room = refl
start_of_lem (sends_dcf mode dcf) c t n room = refl

room_of : (job : Sending) (room : Bytes) → job_room (job_of job) room ≡ placed room 0 (bytes_of job)
room_of (sends_write mode index sub bytes) room = refl
room_of (sends_dcf mode dcf) room = refl

-- where nothing was sent nothing is delivered
none_yet : {a : Aim} {s : State} {t : Option Transfer} {offset : ℕ} {k : DcfCursor} {delivered : ℕ} {read : Option ReadByIndexRequest} {size : ℕ}
    → Carried a [] s t offset k delivered read size → 0 ≡ delivered
none_yet {a} {s} {t} {offset} i =
    let n : 0 ≡ length (i.before ++ begun a.job s t offset) = ap length i.joined in omega (arith, i.figure, rw length-append at n)

-- where nothing is loaded, nothing is readable
abbrev pub NoneReadable : Connection → Bytes → Type 0
NoneReadable c room =
    c.job.loaded ≡ None → entries_from c.job.cursor.left (take c.job.size room) c.job.cursor.at ≡ []

module _ (lent : Bytes) (earlier : List Event) (node : ℕ) (job : Sending) (now : Now)
    (e : (start lent earlier node (job_of job) now).done.answer ≡ Answer.Nothing) where
  abbrev pub a : Aim
  a = aim_of job (started lent earlier node (job_of job) now e).room

  sends_begun : Begun a (started lent earlier node (job_of job) now e).begun
  sends_begun =
      let s = started lent earlier node (job_of job) now e in
      begun_job_lem s.before s.number now job s.room s.begun (sym (start_of_lem job s.before s.number now s.room) ∙ s.is)

  abbrev Sent : Log → Host → Type 0
  Sent l h = Brings (entries_of job) (SendsRun a) (SendsEnd a) (sends_kept a) node l h

  module _ (later : List Event) where
    abbrev log : Log
    log = follow (entries_of job) node untold (after lent earlier node (job_of job) now) later

    abbrev host : Host
    host = run (after lent earlier node (job_of job) now) later

    pub sends : Sent log host
    sends =
        brings lent earlier node (job_of job) now e (entries_of job) (SendsRun a) (SendsEnd a) (sends_kept a)
        (room_of job (started lent earlier node (job_of job) now e).room, sends_begun.carries, none_yet sends_begun.carries) later

    -- what demand 3 asks
    pub sends_asked : For (entries_of job) (counted job) (pieces log.story.asks) log.outcome log.figure
    sends_asked = go log.outcome sends
      where
        go : (x : Option Reason) → Sent (record { story = log.story; outcome = x; figure = log.figure }) host
            → For (entries_of job) (counted job) (pieces log.story.asks) x log.figure
        go None b = beginning b.on.is.1
        go (Some why) b =
            subst (ForEnd (entries_of job) (counted job) (pieces log.story.asks) why) (sym b.over.figure_is) b.over.ends.0

    -- the figure
    pub sends_figure : OnSome log.outcome ((log.figure ≡ log.story.delivered) × Unit {0})
    sends_figure = go log.outcome sends
      where
        go : (x : Option Reason) → Sent (record { story = log.story; outcome = x; figure = log.figure }) host
            → OnSome x ((log.figure ≡ log.story.delivered) × Unit {0})
        go None b = tt
        go (Some why) b = (b.over.figure_is ∙ sym b.over.ends.1, tt)

    -- the self-call
    pub no_self_call : log.outcome ≡ None → Held (holding host.manager host.store node) NoneReadable
    no_self_call r =
        let x = running log host sends r in
        subst (λ (k : Holding). Held k NoneReadable) (sym x.held)
        (λ u. rw x.on.is.0 (self_call_never a (pieces log.story.asks) x.held_by x.on.is.1 u))

pub demand_3 : Demand3
unfolding Demand3
demand_3 lent earlier node job now later e = sends_asked lent earlier node job now e later
