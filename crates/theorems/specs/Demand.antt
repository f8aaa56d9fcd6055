-- Demand 3 over the manager: a job that sends, any calls before its start and any after it, the lent store coming back untouched between
-- calls. It names what calls answer, report and put into the output, and no field of a connection. What it drops besides openings is what tick gives, and that is timeout
-- repeats and aborts: `TickGives`.
use Rattle.std.specs.Prelude.{ℕ, ◌≡◌, List}
use Rattle.codec.specs.Bytes.{Bytes}
use Rattle.con_reply.specs.Delivery.{For, pieces}
use Rattle.con_reply.specs.Jobs.{Job as Sending, counted, entries_of, loads, writes}
use Rattle.manager.specs.Calls.{Job, loads as starts_dcf, writes as starts_write}
use Rattle.theorems.specs.Run.{Event, Host, made, next, reached, starting}
use Rattle.theorems.specs.Story.{Log, follow, untold}
use Rattle.theorems.specs.Types.{Answer, Now}

-- a job that sends, as the start of the manager takes it
abbrev pub job_of : Sending → Job
job_of (writes mode index sub bytes) = starts_write mode index sub bytes
job_of (loads mode dcf) = starts_dcf mode dcf

-- of any calls from a new manager, a start of a write or a DCF that is taken, and any calls and replies after it
unfoldable pub Demand3 : Type 0
Demand3 =
    (lent : Bytes) (earlier : List Event) (node : ℕ) (job : Sending) (now : Now) (later : List Event)
    → let host : Host = reached lent earlier in
    let start : Event = starting node (job_of job) now in
    let log : Log = follow (entries_of job) node untold (next host start) later in
    (made host start).done.answer ≡ Answer.Nothing
    → For (entries_of job) (counted job) (pieces log.story.asks) log.outcome log.figure
