-- The delivered figure at every end (document 01, "The connection"): the number of entries that were wholly sent and then answered by a reply that was
-- accepted; for a read 0.
use Rattle.std.specs.Prelude.{ℕ, ◌≡◌, List, [], ◌∷◌, OnSome}
use Rattle.codec.specs.Bytes.{Bytes}
use Rattle.codec.specs.Dcf.{readable_entries, sent_as}
use Rattle.manager.specs.Calls.{Job, loads, reads, writes}
use Rattle.theorems.specs.Run.{Event, Host, made, next, reached, starting}
use Rattle.theorems.specs.Story.{Log, follow, untold}
use Rattle.theorems.specs.Types.{Answer, Now}

-- the entries of a job: a read has none
abbrev pub entries_in : Job → List Bytes
entries_in (writes mode index sub bytes) = sent_as index sub bytes ∷ []
entries_in (reads mode index sub) = []
entries_in (loads mode dcf) = readable_entries dcf

abbrev pub ForRead : Job → ℕ → Type 0
ForRead (writes mode index sub bytes) figure = Unit {0}
ForRead (reads mode index sub) figure = figure ≡ 0
ForRead (loads mode dcf) figure = Unit {0}

-- where the job ended, whatever the reason
unfoldable pub Figures : Type 0
Figures =
    (lent : Bytes) (earlier : List Event) (node : ℕ) (job : Job) (now : Now) (later : List Event)
    → let host : Host = reached lent earlier in
    let start : Event = starting node job now in
    let log : Log = follow (entries_in job) node untold (next host start) later in
    (made host start).done.answer ≡ Answer.Nothing
    → OnSome log.outcome ((log.figure ≡ log.story.delivered) × ForRead job log.figure)
