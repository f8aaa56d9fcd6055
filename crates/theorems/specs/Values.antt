-- Values back to the bench (document 02, CR 1). Of any calls, where a read ends Complete, the bytes that are handed out are the payloads that its accepted
-- replies brought, joined as document 01 says (con_reply's `joined`): the one Expedited payload, or those of Segment and Complete since the last Initiate.
-- Every other call answers no value. `Values` and `ValuesAlone` are told by calls, answers, payloads and the host's store, and by no field of a connection.
use Rattle.std.specs.Prelude.{ℕ, ◌+◌, ◌≤◌, ◌≡◌, List, [], Option, Some, None, IsSomeAnd}
use Rattle.laws.specs.Pick.{pick}
use Rattle.codec.specs.Bytes.{Bytes}
use Rattle.manager.specs.Calls.{After, Call, Job, loads, reads, replies, starts, turns, writes}
use Rattle.man_table.specs.Table.{room_size, store_size}
use Rattle.man_value.specs.Value.{is_complete, object_of, value_in}
use Rattle.theorems.specs.Figures.{entries_in}
use Rattle.theorems.specs.Run.{Event, Host, made, next, reached, reported, run, starting}
use Rattle.theorems.specs.Story.{Log, end_for, follow, told, untold}
use Rattle.theorems.specs.Types.{Answer, End, Mode, Now, Reason, StorePart}

-- what the thin call hands out of a store for an answer: bytes for a value, for any other answer there is nothing to hand out
abbrev pub handed : Answer → Bytes → Option Bytes
handed Answer.Nothing store = None
handed (Answer.Sent s) store = None
handed (Answer.Value part) store = Some (value_in store part)
handed (Answer.Refused r) store = None

-- what is due for a job by the end that is reported of it: for a read that ended Complete, what it brought
abbrev pub due_by : Reason → Bytes → Option Bytes
due_by why brought = pick (is_complete why) (Some brought) None

abbrev pub due_for : Job → Option End → Bytes → Option Bytes
due_for (writes mode index sub content) e brought = None
due_for (reads mode index sub) None brought = None
due_for (reads mode index sub) (Some e) brought = due_by e.reason brought
due_for (loads mode dcf) e brought = None

-- any call but a reply from another node, which may have its own value
abbrev pub Concerns : ℕ → Call → Type 0
Concerns node (starts k job n) = Unit {0}
Concerns node (turns t n) = Unit {0}
Concerns node (replies k seq cmd payload) = k ≡ node

-- of any calls, a job that is started, any calls after it while it runs, and one call more: what is handed out is what is due
unfoldable pub Values : Type 0
Values =
    (lent : Bytes) (earlier : List Event) (node : ℕ) (job : Job) (now : Now) (later : List Event) (x : Event)
    → let host : Host = reached lent earlier in
    let start : Event = starting node job now in
    let log : Log = follow (entries_in job) node untold (next host start) later in
    let before : Host = run (next host start) later in
    let a : After = made before x in
    (made host start).done.answer ≡ Answer.Nothing → log.outcome ≡ None → Concerns node x.call
    → handed a.done.answer (next before x).store
    ≡ due_for job (end_for node (reported a)) (told (entries_in job) node log.story x.call a).brought

-- and while a read runs, the object that the manager names for it is that of its start
unfoldable pub ObjectNamed : Type 0
ObjectNamed =
    (lent : Bytes) (earlier : List Event) (node : ℕ) (mode : Mode) (index sub : ℕ) (now : Now) (later : List Event)
    → let host : Host = reached lent earlier in
    let start : Event = starting node (reads mode index sub) now in
    let log : Log = follow [] node untold (next host start) later in
    (made host start).done.answer ≡ Answer.Nothing → log.outcome ≡ None
    → object_of (run (next host start) later).manager node ≡ Some (record { index = index; sub_index = sub })

-- the end that is reported is Complete
abbrev pub IsComplete : Option End → Type 0
IsComplete o = IsSomeAnd o (λ (e : End). e.reason ≡ Reason.Complete)

abbrev pub EndsComplete : Call → List End → Type 0
EndsComplete (starts k job n) ends = ⊥
EndsComplete (turns t n) ends = ⊥
EndsComplete (replies k seq cmd payload) ends = IsComplete (end_for k ends)

-- of any calls, an answer with a value is a reply's, by which the node's job ended Complete
unfoldable pub ValuesAlone : Type 0
ValuesAlone =
    (lent : Bytes) (earlier : List Event) (x : Event) (store value : Bytes)
    → let a : After = made (reached lent earlier) x in
    handed a.done.answer store ≡ Some value → EndsComplete x.call (reported a)

-- of any calls, a part that is answered lies within the store, and has no more bytes than a room
unfoldable pub ValuesWithin : Type 0
ValuesWithin =
    (lent : Bytes) (earlier : List Event) (x : Event) (part : StorePart)
    → (made (reached lent earlier) x).done.answer ≡ Answer.Value part
    → (part.start + part.length ≤ store_size) × (part.length ≤ room_size)
