-- In published mode no Complete that brings bytes follows an Expedited (document 02, CR 2), of any calls. One without bytes may: document 01's "an empty
-- Complete if nothing remains", which ask comes to after a duplicate; WorkedRuns has such a run. It is said of what ask gives; what tick gives is the last of
-- these again, or an abort: `TickGives`.
use Rattle.std.specs.Prelude.{ℕ, ◌≡◌, List, [], ◌∷◌}
use Rattle.codec.specs.Bytes.{Bytes}
use Rattle.con_reply.specs.Sent.{Sent}
use Rattle.manager.specs.Calls.{Job, mode_of}
use Rattle.theorems.specs.Figures.{entries_in}
use Rattle.theorems.specs.Run.{Event, Host, made, next, reached, starting}
use Rattle.theorems.specs.Story.{Log, follow, untold}
use Rattle.theorems.specs.Types.{Answer, Mode, Now, Segmentation}

-- a command behind another: where that is Expedited and this a Complete, it is empty
abbrev pub EmptyAfter : Sent → Sent → Type 0
EmptyAfter s t = s.kind ≡ Segmentation.Expedited → t.kind ≡ Segmentation.Complete → t.payload ≡ []

abbrev pub OnlyEmpty : List Sent → Type 0
OnlyEmpty [] = Unit {0}
OnlyEmpty (s ∷ []) = Unit {0}
OnlyEmpty (s ∷ t ∷ more) = EmptyAfter s t × OnlyEmpty (t ∷ more)

-- of any calls from a new manager, a start in published mode that is taken, and any calls and replies after it: what ask gave the node
unfoldable pub OnlyEmptyFollows : Type 0
OnlyEmptyFollows =
    (lent : Bytes) (earlier : List Event) (node : ℕ) (job : Job) (now : Now) (later : List Event)
    → let host : Host = reached lent earlier in
    let start : Event = starting node job now in
    let log : Log = follow (entries_in job) node untold (next host start) later in
    mode_of job ≡ Mode.Published → (made host start).done.answer ≡ Answer.Nothing → OnlyEmpty log.story.asks
