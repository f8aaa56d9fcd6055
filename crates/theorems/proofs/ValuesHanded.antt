-- What is handed out where a read ends Complete is what its accepted replies brought; every other call answers no value.
use Rattle.std.specs.Prelude.{Option, Some, None, Result, Ok, Err, IfSome}
use Rattle.std.proofs.lemmas.Option.{some_pair_parts}
use Prim.Native.Nat.{ℕ, ◌+◌, ◌≤◌}
use native.Mathlib.Omega.{arith}
use mathlib.Core.Path.{◌≡◌, refl, sym, ◌∙◌, ap, subst}
use mathlib.Core.Bool.{Bool, true, false}
use mathlib.Core.List.{List, [], ◌∷◌}
use mathlib.Core.Logic.{inl, inr}
use lib.Dec.{eqb}
use lib.ListN.{drop, length, length-take}
use borrow.Author.Tests.{eq-eqb}
use Rattle.laws.specs.Pick.{pick}
use Rattle.laws.proofs.Choices.{either}
use Rattle.codec.specs.Bytes.{Bytes}
use Rattle.con_rec.specs.Record.{end_of, end_with}
use Rattle.con_reply.specs.Consistent.{Consistent}
use Rattle.con_reply.proofs.JobCarried.{Aim}
use Rattle.con_reply.proofs.ReplySound.{reply_sound}
use Rattle.con_reply.proofs.StoresWithin.{replied_room}
use Rattle.con_reply.specs.Jobs.{Job as Sending, entries_of, loads as sends_dcf, writes as sends_write}
use Rattle.connection.proofs.TurnView.{AskView, TickView, again, ask_view, early, ends, gives, late, never, over, silent, tick_view}
use Rattle.connection.specs.Ask.{ask_of}
use Rattle.connection.specs.Tick.{tick_of}
use Rattle.manager.proofs.ValueCases.{value_as}
use Rattle.manager.specs.Calls.{After, Call, Job, called, loads, reads, replies, starts, turns, writes}
use Rattle.manager.specs.Value.{value_by, value_for, value_of}
use Rattle.man_table.specs.Table.{find_in, live, one_further, room_in, room_size, room_start, store_size}
use Rattle.man_table.specs.Walk.{at_turn}
use Rattle.man_value.proofs.ValueRoom.{value_room}
use Rattle.man_value.specs.Value.{is_complete, object_at, value_in}
use Rattle.theorems.specs.Demand.{job_of}
use Rattle.theorems.specs.Quiet.{Holding, holding, holding_in}
use Rattle.theorems.specs.Run.{Event, Host, Lends, another, made, next, own, reached, reported, run}
use Rattle.theorems.specs.Sound.{Reached, Sane, Sound}
use Rattle.theorems.specs.Story.{Gave, Log, Story, end_for, follow, gave_to, heard, told, told_by, untold}
use Rattle.theorems.specs.Types.{
  Answer,
  End,
  Mode,
  Now,
  Outgoing,
  Reason,
  Refusal,
  SdoClientConnection as Connection,
  SdoClientManager as Manager,
  Step,
  StorePart,
  Turn,
}
use Rattle.theorems.specs.Values.{Concerns, EndsComplete, IsComplete, ObjectNamed, Values, ValuesAlone, ValuesWithin, due_by, due_for, handed}
use Rattle.theorems.proofs.ConnectionAfter.{after_giving, after_repeating}
use Rattle.theorems.proofs.AllReached.{all_sound, run_sound}
use Rattle.theorems.proofs.Cases.{Shown, not_refused, turn_by}
use Rattle.theorems.proofs.Followed.{On, OnBy, Onward, Still, reply_onward}
use Rattle.theorems.proofs.JobKept.{Ending, Kept, Running}
use Rattle.theorems.proofs.JobStarted.{after, running, start_sound, start}
use Rattle.theorems.proofs.NodeAndRoom.{SameRead, replied_read}
use Rattle.theorems.proofs.NodeSees.{event_view, held_is}
use Rattle.theorems.proofs.NodeView.{Apart, IsRefused, NodeView, answers, begins, bytes_in, bytes_of, idles, rests, steps, unknown}
use Rattle.theorems.proofs.ReadsBrought.{read_brings}
use Rattle.theorems.proofs.ReadsKept.{ReadsEnd, ReadsRun, reads_kept}
use Rattle.theorems.proofs.Rooms.{room_at}
use Rattle.theorems.proofs.SendsDelivered.{a as aim, sends}
use Rattle.theorems.proofs.SendsKept.{SendsEnd, SendsRun, sends_kept}
use Rattle.theorems.proofs.StartBy.{start_by}
use Rattle.theorems.proofs.WrongStore.{wrong_store}

-- ---- starts, ticks and asks answer no value
abbrev NoValue : Answer → Type 0
NoValue a = (store : Bytes) → handed a store ≡ None

abbrev UnlessReply : Call → Answer → Type 0
UnlessReply (starts k job n) a = NoValue a
UnlessReply (turns t n) a = NoValue a
UnlessReply (replies k seq cmd payload) a = Unit {0}

call_silent : (m : Manager) (store output : Bytes) (x : Call) → UnlessReply x (called m store output x).done.answer
call_silent m store output (starts node job n) =
    start_by m node job n store output Silent (λ r e s. refl) (λ r e k f s. refl) (λ k d long at e s. refl) (λ d long none few e s. refl)
    (λ r e f none few s. refl)
  where
    Silent : Shown
    Silent k s out a es = NoValue a
call_silent m store output (turns t n) =
    turn_by t m n store output Silent (λ r s. refl) (λ l long fits e s. refl) (λ k o l long fits e s. refl)
  where
    Silent : Shown
    Silent k s out a es = NoValue a
call_silent m store output (replies node seq cmd payload) = tt

event_silent : (h : Host) (x : Event) → UnlessReply x.call (made h x).done.answer
event_silent h x = go x.lends
  where
    refused : (y : Call) → UnlessReply y (Answer.Refused Refusal.WrongStore)
    refused (starts node job n) = λ s. refl
    refused (turns t n) = λ s. refl
    refused (replies node seq cmd payload) = tt

    go : (l : Lends) → UnlessReply x.call (made h (record { call = x.call; lends = l; output = x.output })).done.answer
    go own = call_silent h.manager h.store x.output x.call
    go (another store differs) = rw (wrong_store h.manager store x.output x.call differs) (refused x.call)

-- ---- a job, by what its connection's steps leave due
-- no value is due while a job runs
runs_on : (job : Job) (value : Bytes) → due_for job None value ≡ None
runs_on (writes mode index sub content) value = refl
runs_on (reads mode index sub) value = refl
runs_on (loads mode dcf) value = refl

module _ (job : Job) (entries : List Bytes) (Runs : Running) (Ends : Ending) (kept : Kept entries Runs Ends)
    (turned : (s : Story) (c : Connection) (room : Bytes) → On entries Runs Ends kept s c room → (t : Turn) (n : Now) (d : Connection) (x : Option Outgoing)
    → at_turn t c n ≡ Ok (record { connection = d; sends = x }) → (value : Bytes) → due_for job (end_of d) value ≡ None)
    (answered : (s t : Story) (c d : Connection) (room store : Bytes) → On entries Runs Ends kept s c room → SameRead c d
    → Onward entries Runs Ends kept t (room_in store c) d → handed (value_of d) store ≡ due_for job (end_of d) t.brought)
    (node : ℕ) where
  abbrev Says : Story → Holding → Call → Answer → Gave → Option End → Bytes → Type 0
  Says s None x a g e b = Unit {0}
  Says s (Some (c, room)) x a g e b =
      On entries Runs Ends kept s c room → Consistent c room → Concerns node x → UnlessReply x a → (store : Bytes) → b ≡ room_in store c
      → handed a store ≡ due_for job e (told_by entries node s x a g).brought

  rest : (s : Story) (h : Holding) (x : Call) (a : Answer) → Apart node x a → Says s h x a None None (bytes_of h)
  rest s None x a p = tt
  rest s (Some (c, room)) (starts k other n) a p = λ on i same u store f. u store ∙ sym (runs_on job _)
  rest s (Some (c, room)) (turns t n) a p = λ on i same u store f. u store ∙ sym (runs_on job _)
  rest s (Some (c, room)) (replies k seq cmd payload) a (inl ne) = λ on i same u store f. absurd (ne same)
  rest s (Some (c, room)) (replies k seq cmd payload) Answer.Nothing (inr p) = absurd p
  rest s (Some (c, room)) (replies k seq cmd payload) (Answer.Sent x) (inr p) = absurd p
  rest s (Some (c, room)) (replies k seq cmd payload) (Answer.Value part) (inr p) = absurd p
  rest s (Some (c, room)) (replies k seq cmd payload) (Answer.Refused r) (inr p) = λ on i same u store f. sym (runs_on job _)

  begin : (s : Story) (h : Holding) (other : Job) (n : Now) (a : Answer) (b : Bytes) → Says s h (starts node other n) a None None b
  begin s None other n a b = tt
  begin s (Some (c, room)) other n a b = λ on i same u store f. u store ∙ sym (runs_on job _)

  say : (s : Story) {h : Holding} {x : Call} {a : Answer} {g : Gave} {e : Option End} {i : Holding} {b : Bytes} → NodeView node h x a g e i b
      → Says s h x a g e b
  unfolding pick
  say s (rests {h} {x} {a} p) = rest s h x a p
  say s unknown = tt
  say s (begins {h} {job = other} {n} c t room seat e) = begin s h other n _ _
  say s idles = tt
  say s (steps {t} {n} {a} {c} {d} {room} {x} e) = λ on i same u store f. u store ∙ sym (turned s c room on t n d x e _)
  say s (answers {seq} {cmd} {payload} {c} {d} {room} e) =
      λ on i same u store f.
      let t : Story = heard entries s seq cmd payload in
      rw (eq-eqb node node refl, ← not_refused s t d)
      (answered s t c d room store on (replied_read seq cmd payload c room d e)
      (subst (λ (b : Bytes). Onward entries Runs Ends kept t b d) f (reply_onward entries Runs Ends kept s c room on i seq cmd payload d e)))

  pub event_hands : (s : Story) (h : Host) → Sound h.manager h.store → Still entries Runs Ends kept node s h → (x : Event) → Concerns node x.call
      → handed (made h x).done.answer (next h x).store
      ≡ due_for job (end_for node (reported (made h x))) (told entries node s x.call (made h x)).brought
  event_hands s h sound still x same =
      subst
      (λ (k : Holding).
      Says s k x.call (made h x).done.answer (gave_to node (made h x).output (made h x).done.answer)
      (end_for node (reported (made h x))) (bytes_in (holding h.manager h.store node) (next h x).store))
      still.held (say s (event_view h sound node x)) still.on
      (consistent (held_is node h.store (Sane h.store) (live h.manager) sound.each still.held_by still.room still.held))
      same (event_silent h x) (next h x).store (ap (λ (k : Holding). bytes_in k (next h x).store) still.held)
    where
      consistent : Sane h.store still.held_by × (still.room ≡ room_in h.store still.held_by) → Consistent still.held_by still.room
      consistent (sane, e) = subst (Consistent still.held_by) (sym e) sane.consistent

-- ---- a write and a DCF have no value
none_due : (job : Sending) (e : Option End) (value : Bytes) → due_for (job_of job) e value ≡ None
none_due (sends_write mode index sub content) e value = refl
none_due (sends_dcf mode dcf) e value = refl

none_brought : (d : Connection) → d.job.pending_read ≡ None → NoValue (value_of d)
none_brought d p store = go d.outcome
  where
    go : (x : Option Reason) → handed (value_by x d) store ≡ None
    go None = refl
    go (Some why) = either (λ (a : Answer). handed a store ≡ None) (is_complete why) _ _ (rw p refl) refl

-- ---- a read
module _ (mode : Mode) (index sub : ℕ) where
  abbrev Going : Story → Connection → Bytes → Type 0
  Going s c room = On [] (ReadsRun index sub) (ReadsEnd index sub) (reads_kept index sub) s c room

  abbrev Due : Result Step Refusal → Type 0
  Due (Ok x) = (value : Bytes) → due_for (reads mode index sub) (end_of x.connection) value ≡ None
  Due (Err r) = Unit {0}

  -- no turn ends it Complete
  module _ (s : Story) (c : Connection) (room : Bytes) (on : Going s c room) (n : Now) where
    goes : (d : Connection) → d.outcome ≡ None → (value : Bytes) → due_for (reads mode index sub) (end_of d) value ≡ None
    goes d e value = rw e refl

    ask_due : Due (ask_of c n)
    ask_due = go (ask_view c n)
      where
        go : {x : Result Step Refusal} → AskView c n x → Due x
        go (silent w) = goes c on.runs
        go (ends f e l p) = cc (on.is.pending)
        go (gives {s = x} {sent} {o} g h) = goes (after_giving c n x sent o) on.runs
        go (late g h) = tt

    tick_due_lem : Due (tick_of c n)
    unfolding pick
    tick_due_lem = go (tick_view c n)
      where
        go : {x : Result Step Refusal} → TickView c n x → Due x
        go (never e) = goes c on.runs
        go (early e h) = goes c on.runs
        go (over e h r) = λ value. refl
        go (again e h r k) = goes (after_repeating c n) on.runs
        go (late e h r k) = tt

  turn_due : (s : Story) (c : Connection) (room : Bytes) → Going s c room → (t : Turn) (n : Now) (d : Connection) (x : Option Outgoing)
      → at_turn t c n ≡ Ok (record { connection = d; sends = x }) → (value : Bytes) → due_for (reads mode index sub) (end_of d) value ≡ None
  turn_due s c room on Turn.Asking n d x e = subst Due e (ask_due s c room on n)
  turn_due s c room on Turn.Ticking n d x e = subst Due e (tick_due_lem s c room on n)

  -- what the reply that ends it Complete answers is what was brought
  reply_due : (s t : Story) (c d : Connection) (room store : Bytes) → Going s c room → SameRead c d
      → Onward [] (ReadsRun index sub) (ReadsEnd index sub) (reads_kept index sub) t (room_in store c) d
      → handed (value_of d) store ≡ due_for (reads mode index sub) (end_of d) t.brought
  unfolding pick
  reply_due s t c d room store on same = go d.outcome
    where
      there : room_in store c ≡ room_in store d
      there = ap (room_at store) (sym same.0.1)

      pending : d.job.pending_read ≡ Some (record { index = index; sub_index = sub })
      pending = same.1 ∙ on.is.pending

      by_reason : (why : Reason) → ReadsEnd index sub t (room_in store d) why d.job
          → handed (pick (is_complete why) (value_for d.job.pending_read d) Answer.Nothing) store ≡ due_by why t.brought
      by_reason Reason.Complete o = rw pending (ap Some (value_room store d o.2.0 ∙ o.2.1))
      by_reason Reason.Cut o = refl
      by_reason Reason.OpenRefused o = refl
      by_reason Reason.Sequence o = refl
      by_reason (Reason.PeerAborted code) o = refl
      by_reason Reason.Timeout o = refl
      by_reason Reason.BadSegment o = refl

      go : (x : Option Reason) → OnBy [] (ReadsRun index sub) (ReadsEnd index sub) (reads_kept index sub) t (room_in store c) d x
          → handed (value_by x d) store ≡ due_for (reads mode index sub) (end_with d x) t.brought
      go None o = refl
      go (Some why) o = by_reason why (subst (λ (b : Bytes). ReadsEnd index sub t b why d.job) there o)

-- ---- of any calls
sends_hands : (lent : Bytes) (earlier : List Event) (node : ℕ) (job : Sending) (now : Now) (later : List Event) (x : Event)
    → let log : Log = follow (entries_of job) node untold (after lent earlier node (job_of job) now) later in
    let before : Host = run (after lent earlier node (job_of job) now) later in
    (start lent earlier node (job_of job) now).done.answer ≡ Answer.Nothing → log.outcome ≡ None → Concerns node x.call
    → handed (made before x).done.answer (next before x).store
    ≡ due_for (job_of job) (end_for node (reported (made before x))) (told (entries_of job) node log.story x.call (made before x)).brought
sends_hands lent earlier node job now later x e r same =
    event_hands (job_of job) (entries_of job) (SendsRun to) (SendsEnd to) (sends_kept to) (λ s c room on t n d x f value. none_due job (end_of d) value)
    (λ s t c d room store on kept o. none_brought d (kept.1 ∙ on.is.1.writes) store ∙ sym (none_due job (end_of d) t.brought)) node
    log.story before (run_sound later (after lent earlier node (job_of job) now) (start_sound lent earlier node (job_of job) now))
    (running log before (sends lent earlier node job now e later) r) x same
  where
    to : Aim
    to = aim lent earlier node job now e

    before : Host
    before = run (after lent earlier node (job_of job) now) later

    log : Log
    log = follow (entries_of job) node untold (after lent earlier node (job_of job) now) later

pub values : Values
unfolding Values
values lent earlier node (reads mode index sub) now later x e r same =
    event_hands (reads mode index sub) [] (ReadsRun index sub) (ReadsEnd index sub) (reads_kept index sub) (turn_due mode index sub) (reply_due mode index sub) node
    log.story before (run_sound later (after lent earlier node (reads mode index sub) now) (start_sound lent earlier node (reads mode index sub) now))
    (running log before (read_brings lent earlier node mode index sub now e later) r) x same
  where
    before : Host
    before = run (after lent earlier node (reads mode index sub) now) later

    log : Log
    log = follow [] node untold (after lent earlier node (reads mode index sub) now) later
values lent earlier node (writes mode index sub content) now later x e r same = sends_hands lent earlier node (sends_write mode index sub content) now later x e r same
values lent earlier node (loads mode dcf) now later x e r same = sends_hands lent earlier node (sends_dcf mode dcf) now later x e r same

-- ---- the object that the manager names
found_there : (node : ℕ) (store : Bytes) (c : Connection) (room : Bytes) (l : List Connection) → holding_in node l store ≡ Some (c, room)
    → object_at (find_in node l) l ≡ c.job.pending_read
unfolding pick
found_there node store c room [] e = cc
found_there node store c room (d ∷ l) e = go (eqb d.target_node_id node) e (found_there node store c room l)
  where
    further : (f : Option ℕ) → object_at (one_further f) (d ∷ l) ≡ object_at f l
    further (Some k) = refl
    further None = refl

    go : (b : Bool) → pick b (Some (d, room_in store d)) (holding_in node l store) ≡ Some (c, room)
        → (holding_in node l store ≡ Some (c, room) → object_at (find_in node l) l ≡ c.job.pending_read)
        → object_at (pick b (Some 0) (one_further (find_in node l))) (d ∷ l) ≡ c.job.pending_read
    go true h more = ap (λ (x : Connection). x.job.pending_read) (some_pair_parts d c (room_in store d) room h).0
    go false h more = further (find_in node l) ∙ more h

pub object_named : ObjectNamed
unfolding ObjectNamed
object_named lent earlier node mode index sub now later e r =
    let h : Host = run (after lent earlier node (reads mode index sub) now) later in
    let log : Log = follow [] node untold (after lent earlier node (reads mode index sub) now) later in
    let still = running log h (read_brings lent earlier node mode index sub now e later) r in
    found_there node h.store still.held_by still.room (live h.manager) still.held ∙ still.on.is.pending

-- ---- nothing else answers a value
module _ (store value : Bytes) where
  -- where a value was answered, this is so
  abbrev IfValue : Answer → Type 0 → Type 0
  IfValue a so = handed a store ≡ Some value → so

  no_value_lem : {so : Type 0} → None ≡ Some value → so
  no_value_lem e = cc

  module _ (node : ℕ) where
    abbrev Alone : Call → Answer → Option End → Type 0
    Alone (starts k job n) a e = Unit {0}
    Alone (turns t n) a e = Unit {0}
    Alone (replies k seq cmd payload) a e = k ≡ node → IfValue a (IsComplete e)

    apart_alone : (x : Call) (a : Answer) → Apart node x a → Alone x a None
    apart_alone (starts k job n) a p = tt
    apart_alone (turns t n) a p = tt
    apart_alone (replies k seq cmd payload) a (inl ne) = λ same. absurd (ne same)
    apart_alone (replies k seq cmd payload) Answer.Nothing (inr p) = absurd p
    apart_alone (replies k seq cmd payload) (Answer.Sent s) (inr p) = absurd p
    apart_alone (replies k seq cmd payload) (Answer.Value part) (inr p) = absurd p
    apart_alone (replies k seq cmd payload) (Answer.Refused r) (inr p) = λ same. no_value_lem

    ended_alone : (d : Connection) (x : Option Reason) → IfValue (value_by x d) (IsComplete (end_with d x))
    unfolding pick
    ended_alone d None = no_value_lem
    ended_alone d (Some Reason.Complete) = λ e. refl
    ended_alone d (Some Reason.Cut) = no_value_lem
    ended_alone d (Some Reason.OpenRefused) = no_value_lem
    ended_alone d (Some Reason.Sequence) = no_value_lem
    ended_alone d (Some (Reason.PeerAborted code)) = no_value_lem
    ended_alone d (Some Reason.Timeout) = no_value_lem
    ended_alone d (Some Reason.BadSegment) = no_value_lem

    view_alone : {h : Holding} {x : Call} {a : Answer} {g : Gave} {e : Option End} {i : Holding} {b : Bytes} → NodeView node h x a g e i b → Alone x a e
    view_alone (rests {h} {x} {a} p) = apart_alone x a p
    view_alone unknown = λ same. no_value_lem
    view_alone (begins c t room seat e) = tt
    view_alone idles = tt
    view_alone (steps e) = tt
    view_alone (answers {d = d} e) = λ same. ended_alone d d.outcome

pub values_alone : ValuesAlone
unfolding ValuesAlone Reached
values_alone lent earlier x store value = go x.call refl
  where
    h : Host
    h = reached lent earlier

    a : After
    a = made h x

    go : (y : Call) → x.call ≡ y → handed a.done.answer store ≡ Some value → EndsComplete y (reported a)
    go (starts k job n) f e = no_value_lem store value (sym (subst (λ (y : Call). UnlessReply y a.done.answer) f (event_silent h x) store) ∙ e)
    go (turns t n) f e = no_value_lem store value (sym (subst (λ (y : Call). UnlessReply y a.done.answer) f (event_silent h x) store) ∙ e)
    go (replies k seq cmd payload) f e =
        subst (λ (y : Call). Alone store value k y a.done.answer (end_for k (reported a))) f
        (view_alone store value k (event_view h (all_sound lent earlier) k x)) refl e

-- ---- a part lies within the store
module _ (part : StorePart) where
  abbrev Within : Type 0
  Within = (part.start + part.length ≤ store_size) × (part.length ≤ room_size)

  -- what is held is consistent, and its room is one
  abbrev Fits : Holding → Type 0
  Fits h = IfSome h (λ (p : Connection × Bytes). Consistent p.0 p.1 × (length p.1 ≤ room_size))

  module _ (node : ℕ) where
    abbrev Lies : Holding → Call → Answer → Type 0
    Lies h (starts k job n) a = Unit {0}
    Lies h (turns t n) a = Unit {0}
    Lies h (replies k seq cmd payload) a = Fits h → k ≡ node → a ≡ Answer.Value part → Within

    rest_lies : (h : Holding) (x : Call) (a : Answer) → Apart node x a → Lies h x a
    rest_lies h (starts k job n) a p = tt
    rest_lies h (turns t n) a p = tt
    rest_lies h (replies k seq cmd payload) a (inl ne) = λ q same e. absurd (ne same)
    rest_lies h (replies k seq cmd payload) a (inr p) = λ q same e. absurd (subst IsRefused e p)

    view_lies : {h : Holding} {x : Call} {a : Answer} {g : Gave} {e : Option End} {i : Holding} {b : Bytes} → NodeView node h x a g e i b → Lies h x a
    view_lies (rests {h} {x} {a} p) = rest_lies h x a p
    view_lies unknown = λ q same e. cc
    view_lies (begins c t room seat e) = tt
    view_lies idles = tt
    view_lies (steps e) = tt
    view_lies (answers {seq} {cmd} {payload} {c} {d} {room} e) =
        λ q same f.
        let k = (reply_sound c room q.0 seq cmd payload d e).brings in
        let z = replied_room seq cmd payload c room in
        let l = q.1 in
        let few : d.job.uploaded ≤ room_size = omega (arith, k, z, l) in
        subst (λ (y : StorePart). (y.start + y.length ≤ store_size) × (y.length ≤ room_size)) (value_as d part f) (omega (arith, few), few)

  fits : (h : Host) → Sound h.manager h.store → (node : ℕ) (y : Holding) → holding h.manager h.store node ≡ y → Fits y
  fits h sound node None e = tt
  fits h sound node (Some (c, room)) e =
      let s = held_is node h.store (Sane h.store) (live h.manager) sound.each c room e in
      let n = ap length s.1 ∙ length-take room_size (drop (room_start c) h.store) in (subst (Consistent c) (sym s.1) s.0.consistent, omega (arith, n))

pub values_within : ValuesWithin
unfolding ValuesWithin Reached
values_within lent earlier x part = go x.call refl
  where
    h : Host
    h = reached lent earlier

    a : After
    a = made h x

    none : a.done.answer ≡ Answer.Value part → NoValue a.done.answer → Within part
    none e f = no_value_lem [] (value_in [] part) (sym (f []) ∙ ap (λ (y : Answer). handed y []) e)

    go : (y : Call) → x.call ≡ y → a.done.answer ≡ Answer.Value part → Within part
    go (starts k job n) f e = none e (subst (λ (y : Call). UnlessReply y a.done.answer) f (event_silent h x))
    go (turns t n) f e = none e (subst (λ (y : Call). UnlessReply y a.done.answer) f (event_silent h x))
    go (replies k seq cmd payload) f e =
        subst (λ (y : Call). Lies part k (holding h.manager h.store k) y a.done.answer) f
        (view_lies part k (event_view h (all_sound lent earlier) k x)) (fits part h (all_sound lent earlier) k _ refl) refl e
