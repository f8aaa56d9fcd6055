-- While a job runs, of any calls, it is held; and where nothing is loaded, no entry is readable from the cursor any more, so that the repository's self-call in ask,
-- which loads the next entry there, is never taken.
use Rattle.std.specs.Prelude.{ℕ, ◌≡◌, List, [], take, None}
use Rattle.codec.specs.Bytes.{Bytes}
use Rattle.codec.specs.Dcf.{entries_from}
use Rattle.manager.specs.Calls.{Job}
use Rattle.theorems.specs.Figures.{entries_in}
use Rattle.theorems.specs.Quiet.{Held, holding}
use Rattle.theorems.specs.Run.{Event, Host, made, next, reached, run, starting}
use Rattle.theorems.specs.Story.{follow, untold}
use Rattle.theorems.specs.Types.{Answer, Now}

unfoldable pub SelfCallNever : Type 0
SelfCallNever =
    (lent : Bytes) (earlier : List Event) (node : ℕ) (job : Job) (now : Now) (later : List Event)
    → let host : Host = reached lent earlier in
    let start : Event = starting node job now in
    let after : Host = run (next host start) later in
    (made host start).done.answer ≡ Answer.Nothing → (follow (entries_in job) node untold (next host start) later).outcome ≡ None
    → Held (holding after.manager after.store node)
    (λ c room.
    c.job.loaded ≡ None → entries_from c.job.cursor.left (take c.job.size room) c.job.cursor.at ≡ [])
