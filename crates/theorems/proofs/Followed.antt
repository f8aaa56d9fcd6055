-- A job, followed from its start through any calls. Say what is true while it runs (`Runs`) and what each end must leave (`Ends`); show it at the start,
-- and that each step of a connection keeps it (`Kept`). Then it is true as long as the job runs, and the end that is reported leaves what it must. One
-- induction for every job.
use Rattle.std.specs.Prelude.{Option, Some, None, Result, Ok, Err}
use Prim.Native.Nat.{ℕ, ◌+◌, ◌%◌}
use native.Mathlib.Omega.{arith}
use mathlib.Core.Path.{◌≡◌, refl, sym, ◌∙◌, ap, subst}
use mathlib.Core.Bool.{Bool, true, false}
use mathlib.Core.List.{List, [], ◌∷◌}
use mathlib.Core.Logic.{inl, inr}
use lib.Dec.{eqb}
use lib.ListN.{length}
use borrow.Author.Tests.{eq-eqb, ne_eqb}
use Rattle.laws.specs.Pick.{pick}
use Rattle.laws.proofs.Choices.{decided}
use Rattle.codec.specs.Bytes.{Bytes, placed}
use Rattle.codec.specs.Request.{abort_code}
use Rattle.con_rec.specs.Commands.{command_of, sequence_of}
use Rattle.con_rec.specs.Record.{end_of, end_with}
use Rattle.con_reply.proofs.ReplyCases.{ReplyView, aborted, again as same_number, other, reply_view, taken, unasked, wrong}
use Rattle.con_reply.specs.Consistent.{Consistent, WaitsIn, awaiting, is_closed, is_ended}
use Rattle.con_reply.specs.Delivery.{is_opening}
use Rattle.con_reply.specs.Reply.{cleared, replied, reply_in, reply_of, room_after}
use Rattle.connection.proofs.TickLaws.{Ticked, tick_leaves}
use Rattle.connection.proofs.TurnView.{AskView, Given, TickView, again, ask_view, early, ends, first, gives, late, later, never, next as next_part, opening, over, reading, silent, tick_view}
use Rattle.connection.specs.Ask.{ask_of}
use Rattle.connection.specs.Start.{is_idle}
use Rattle.connection.specs.Tick.{tick_of}
use Rattle.manager.specs.Calls.{Call, replies, starts, turns}
use Rattle.man_table.specs.Table.{live, room_in}
use Rattle.man_table.specs.Walk.{at_turn}
use Rattle.theorems.specs.Quiet.{Holding, holding}
use Rattle.theorems.specs.Run.{Event, Host, made, next, reported, run}
use Rattle.theorems.specs.Sound.{Sane, Sound}
use Rattle.theorems.specs.Story.{Awaits, Gave, Log, Story, accepted, answered, asked, end_for, follow, gave_to, heard, heard_by, told, told_by, unless_ended}
use Rattle.theorems.specs.Types.{
  Answer,
  Decision,
  End,
  Now,
  Outgoing,
  Reason,
  Refusal,
  SdoClientConnection as Connection,
  SdoClientConnectionState as State,
  SdoCommand,
  SdoJob,
  SequenceLayerHeader,
  Step,
  Turn,
}
use Rattle.theorems.proofs.AllReached.{event_sound}
use Rattle.theorems.proofs.Cases.{not_refused}
use Rattle.theorems.proofs.JobStarts.{began}
use Rattle.theorems.proofs.ConnectionAfter.{after_giving, after_repeating}
use Rattle.theorems.proofs.NodeView.{Apart, NodeView, Seat, answers, begins, bytes_in, bytes_of, gave_by, idles, rests, steps, unknown}
use Rattle.theorems.proofs.NodeSees.{event_view, held_is}
use Rattle.theorems.proofs.Tracked.{held_after}
use Rattle.theorems.proofs.JobKept.{AwaitsAs, Breaks, Clear, Decides, Ending, Kept, Leaves, LeavesBy, MayWait, Running, clear_in, opens, waited}

module _ (entries : List Bytes) (Runs : Running) (Ends : Ending) (kept : Kept entries Runs Ends) where
  -- ---- ask and tick
  -- what is held, while the job runs
  pub record On (s : Story) (c : Connection) (room : Bytes) : Type 0 where
    pub runs : c.outcome ≡ None
    pub awaits : AwaitsAs s.awaits c.waiting.last_sent_command c.last_received_sequence_number
    pub is : Runs s room c.state c.job

  abbrev pub OnBy : Story → Bytes → Connection → Option Reason → Type 0
  OnBy s room d None =
      AwaitsAs s.awaits d.waiting.last_sent_command d.last_received_sequence_number × Runs s room d.state d.job
  OnBy s room d (Some why) = Ends s room why d.job

  abbrev pub Onward : Story → Bytes → Connection → Type 0
  Onward s room d = OnBy s room d d.outcome

  stay : (s : Story) (room : Bytes) (d : Connection) → d.outcome ≡ None
      → AwaitsAs s.awaits d.waiting.last_sent_command d.last_received_sequence_number → Runs s room d.state d.job
      → Onward s room d
  stay s room d e a i = rw e (a, i)

  abbrev StepGoes : Turn → Story → Bytes → Result Step Refusal → Type 0
  StepGoes Turn.Asking s room (Ok x) = Onward (asked s (gave_by room x.sends)) room x.connection
  StepGoes Turn.Ticking s room (Ok x) = Onward s room x.connection
  StepGoes t s room (Err r) = Unit {0}

  acknowledges : (c : Connection) {x : State} {sent : ℕ} {o : Outgoing} → Given c x sent o → o.receive ≡ c.last_received_sequence_number
  acknowledges c (opening f e) = refl
  acknowledges c (first f e l) = refl
  acknowledges c (reading f e l p) = refl
  acknowledges c (next_part f e) = refl
  acknowledges c (later f e l) = refl

  module _ (s : Story) (c : Connection) (room : Bytes) (on : On s c room) where
    same : Onward s room c
    same = stay s room c on.runs on.awaits on.is

    ask_goes : (n : Now) → StepGoes Turn.Asking s room (ask_of c n)
    ask_goes n = go (ask_view c n)
      where
        go : {x : Result Step Refusal} → AskView c n x → StepGoes Turn.Asking s room x
        go (silent w) = same
        go (ends f e l p) = kept.finishes s room c e l p on.is
        go (gives {s = x} {sent} {o} g h) = stay (asked s (gave_by room (Some o))) room (after_giving c n x sent o) on.runs (refl, acknowledges c g) (kept.gives s room c g on.is)
        go (late g h) = tt

    tick_goes : (n : Now) → StepGoes Turn.Ticking s room (tick_of c n)
    tick_goes n = go (tick_view c n) (tick_leaves c n)
      where
        go : {x : Result Step Refusal} → TickView c n x → Ticked c x → StepGoes Turn.Ticking s room x
        go (never e) l = same
        go (early e h) l = same
        go (over e h r) l =
            subst (Ends s room Reason.Timeout) (sym l.1) (kept.breaks s room c.state c.job on.is Reason.Timeout tt)
        go (again e h r k) l = stay s room (after_repeating c n) on.runs on.awaits on.is
        go (late e h r k) l = tt

    -- ---- reply
    abbrev Replied : Story → Bytes → Decision → Type 0
    Replied t payload (Decision.Keeps d) = Onward t room d
    Replied t payload (Decision.Stores d from) = Onward t (placed room from payload) d
    Replied t payload Decision.NoRoom = Unit {0}

    module _ (i : Consistent c room) (seq : SequenceLayerHeader) (cmd : SdoCommand) (payload : Bytes) where
      abbrev h : Story
      h = heard entries s seq cmd payload

      abbrev waits : Option Outgoing
      waits = c.waiting.last_sent_command

      broken : (why : Reason) → Breaks why → Ends (answered s) room why c.job
      broken why b = kept.breaks (answered s) room c.state c.job (kept.hears s room c.state c.job on.is) why b

      module _ (o : Outgoing) (e : waits ≡ Some o) where
        awaited : (s.awaits ≡ Some (sequence_of o, command_of o)) × (o.receive ≡ c.last_received_sequence_number)
        awaited = subst (λ (x : Option Outgoing). AwaitsAs s.awaits x c.last_received_sequence_number) e on.awaits

        in_state_lem : c.state ≡ awaiting o.message
        in_state_lem = subst (WaitsIn c.state) e i.waits

        unclosed : is_closed (awaiting o.message) ≡ false
        unclosed = ap is_closed (sym in_state_lem) ∙ sym i.ends ∙ ap is_ended on.runs

        opens_as : is_opening (command_of o).header.command_id ≡ opens c.state
        opens_as = (waited o.mode o.message o.transaction unclosed).1 ∙ ap opens (sym in_state_lem)

        may : MayWait c.state
        may = subst MayWait (sym in_state_lem) (waited o.mode o.message o.transaction unclosed).0

      -- nothing waits where the command was cleared
      lets_go : (t : Story) (b : Bytes) (d : Connection) → t.awaits ≡ None
          → d.waiting.last_sent_command ≡ None → Leaves Runs Ends t b d → Onward t b d
      lets_go t b d f k = go d.outcome
        where
          go : (y : Option Reason) → LeavesBy Runs Ends t b d y → OnBy t b d y
          go None l =
              (subst (λ (w : Option Outgoing). AwaitsAs t.awaits w d.last_received_sequence_number) (sym k) f, l)
          go (Some why) l = l

      -- what the story hears
      hears_nothing : waits ≡ None → h ≡ s
      hears_nothing e =
          ap (λ (x : Awaits). heard_by entries x s seq cmd payload)
          (subst (λ (x : Option Outgoing). AwaitsAs s.awaits x c.last_received_sequence_number) e on.awaits)

      module _ (o : Outgoing) (e : waits ≡ Some o) where
        hears_for : h ≡ heard_by entries (Some (sequence_of o, command_of o)) s seq cmd payload
        hears_for = ap (λ (x : Awaits). heard_by entries x s seq cmd payload) (awaited o e).0

        hears_other : (seq.receive_sequence_number ≡ o.send → ⊥) → h ≡ s
        unfolding pick
        hears_other ne = hears_for ∙ rw (ne_eqb seq.receive_sequence_number o.send ne) refl

        module _ (f : seq.receive_sequence_number ≡ o.send) where
          successor : (o.receive + 1) % 64 ≡ (c.last_received_sequence_number + 1) % 64
          successor = ap (λ (k : ℕ). (k + 1) % 64) (awaited o e).1

          hears_wrong : (seq.send_sequence_number ≡ (c.last_received_sequence_number + 1) % 64 → ⊥) → h ≡ answered s
          unfolding pick
          hears_wrong ne =
              hears_for
              ∙ rw (
                eq-eqb seq.receive_sequence_number o.send f,
                ne_eqb seq.send_sequence_number ((o.receive + 1) % 64) (λ z. ne (z ∙ successor)),
              ) refl

          module _ (g : seq.send_sequence_number ≡ (c.last_received_sequence_number + 1) % 64) where
            hears_next : h
                ≡ pick cmd.header.is_aborted (answered s)
                (accepted entries (is_opening (command_of o).header.command_id) s cmd.header.segmentation payload)
            unfolding pick
            hears_next =
                hears_for
                ∙ rw (
                  eq-eqb seq.receive_sequence_number o.send f,
                  eq-eqb seq.send_sequence_number ((o.receive + 1) % 64) (g ∙ sym successor),
                ) refl

            hears_mark : cmd.header.is_aborted ≡ true → h ≡ answered s
            unfolding pick
            hears_mark a = hears_next ∙ rw a refl

            hears_accepted : cmd.header.is_aborted ≡ false
                → h ≡ accepted entries (opens c.state) s cmd.header.segmentation payload
            unfolding pick
            hears_accepted a =
                hears_next ∙ rw a (ap (λ (b : Bool). accepted entries b s cmd.header.segmentation payload) (opens_as o e))

      accepted_free : (b : Bool) → (accepted entries b s cmd.header.segmentation payload).awaits ≡ None
      accepted_free true = refl
      accepted_free false = refl

      took : (t : Story) → t.awaits ≡ None → (x : Decision) → Clear x → Decides Runs Ends t payload room x → Replied t payload x
      took t f (Decision.Keeps d) k l = lets_go t room d f k l
      took t f (Decision.Stores d from) k l = lets_go t (placed room from payload) d f k l
      took t f Decision.NoRoom k l = tt

      reply_goes : Replied h payload (reply_of seq cmd payload c room)
      reply_goes = go (reply_view seq cmd payload c room)
        where
          go : {x : Decision} → ReplyView seq cmd payload c room x → Replied h payload x
          go (unasked e) = subst (λ (t : Story). Onward t room c) (sym (hears_nothing e)) same
          go (other {o} e f) = subst (λ (t : Story). Onward t room c) (sym (hears_other o e f)) same
          go (same_number {o} (e, f) g) =
              subst (λ (t : Story). Onward t room (cleared c c.last_received_sequence_number))
              (sym (hears_wrong o e f (λ z. omega (arith, i.last))))
              (stay (answered s) room (cleared c c.last_received_sequence_number) on.runs refl
              (kept.hears s room c.state c.job on.is))
          go (wrong {o} (e, f) g) =
              subst (λ (t : Story). Ends t room Reason.Sequence c.job) (sym (hears_wrong o e f g)) (broken Reason.Sequence tt)
          go (aborted {o} (e, f) g a) =
              subst (λ (t : Story). Ends t room (Reason.PeerAborted (abort_code payload)) c.job) (sym (hears_mark o e f g a))
              (broken (Reason.PeerAborted (abort_code payload)) tt)
          go (taken {o} (e, f) ne g a) =
              let d : Connection = cleared c seq.send_sequence_number in
              let x : Decision = reply_in c.state seq cmd.header.segmentation d (length payload) room in
              let t : Story = accepted entries (opens c.state) s cmd.header.segmentation payload in
              subst (λ (t : Story). Replied t payload x) (sym (hears_accepted o e f g a))
              (took t (accepted_free (opens c.state)) x
              (clear_in c seq.send_sequence_number (length payload) room seq cmd.header.segmentation)
              (kept.takes s room d seq cmd.header.segmentation payload i.loads on.runs (may o e) on.is))

      -- a reply that was taken
      abbrev TakenGoes : Bytes → Result Connection Refusal → Type 0
      TakenGoes b (Ok d) = Onward h b d
      TakenGoes b (Err r) = Unit {0}

      taken_goes : (x : Decision) → Replied h payload x → TakenGoes (room_after x payload room) (replied x)
      taken_goes (Decision.Keeps d) l = l
      taken_goes (Decision.Stores d from) l = l
      taken_goes Decision.NoRoom l = tt

      pub reply_onward : (d : Connection) → replied (reply_of seq cmd payload c room) ≡ Ok d
          → Onward h (room_after (reply_of seq cmd payload c room) payload room) d
      reply_onward d e =
          subst (TakenGoes (room_after (reply_of seq cmd payload c room) payload room)) e (taken_goes (reply_of seq cmd payload c room) reply_goes)

  -- ---- a call
  -- an end was reported: what is left
  pub record Over (s : Story) (why : Reason) (figure : ℕ) (room : Bytes) : Type 0 where
    pub job : SdoJob
    pub ends : Ends s room why job
    pub figure_is : figure ≡ job.delivered

  abbrev pub Going : Story → Option End → Holding → Bytes → Type 0
  Going s None None b = ⊥
  Going s None (Some (d, room)) b = (room ≡ b) × On s d room
  Going s (Some e) g b = Over s e.reason e.delivered b

  onward : (s : Story) (b : Bytes) (d : Connection) → Onward s b d → Going s (end_of d) (held_after (end_of d) d b) b
  onward s b d = go d.outcome refl
    where
      go : (x : Option Reason) → d.outcome ≡ x → OnBy s b d x → Going s (end_with d x) (held_after (end_with d x) d b) b
      go None e l = (refl, record { runs = e; awaits = l.0; is = l.1 })
      go (Some why) e l = record { job = d.job; ends = l; figure_is = refl }

  module _ (node : ℕ) where
    abbrev Steps : Story → Holding → Call → Answer → Gave → Option End → Holding → Bytes → Type 0
    Steps s None x a g e i b = Unit {0}
    Steps s (Some (c, room)) x a g e i b = On s c room → Consistent c room → Going (told_by entries node s x a g) e i b

    apart_told : (s : Story) (x : Call) (a : Answer) → Apart node x a → told_by entries node s x a None ≡ s
    unfolding pick
    apart_told s (starts k job n) a p = refl
    apart_told s (turns Turn.Asking n) a p = refl
    apart_told s (turns Turn.Ticking n) a p = refl
    apart_told s (replies k seq cmd payload) a (inl ne) = rw (ne_eqb k node ne) refl
    apart_told s (replies k seq cmd payload) (Answer.Refused r) (inr p) =
        decided (λ (t : Story). t ≡ s) (eqb k node) _ _ (λ e. refl) (λ e. refl)
    apart_told s (replies k seq cmd payload) Answer.Nothing (inr p) = absurd p
    apart_told s (replies k seq cmd payload) (Answer.Sent x) (inr p) = absurd p
    apart_told s (replies k seq cmd payload) (Answer.Value part) (inr p) = absurd p

    rest : (s : Story) (h : Holding) (x : Call) (a : Answer) → Apart node x a → Steps s h x a None None h (bytes_of h)
    rest s None x a p = tt
    rest s (Some (c, room)) x a p = λ on i. (refl, subst (λ (t : Story). On t c room) (sym (apart_told s x a p)) on)

    -- a start on a job that runs is Busy
    begin : (s : Story) (h : Holding) (x : Call) (a : Answer) (c : Connection) → Seat h c → is_idle c.state ≡ true → (i : Holding) (b : Bytes)
        → Steps s h x a None None i b
    begin s None x a c seat e i b = tt
    begin s (Some (d, room)) x a c seat e i b =
        λ on q. cc (e, seat, kept.works s room d.state d.job on.is)

    step : (s : Story) {h : Holding} {x : Call} {a : Answer} {g : Gave} {e : Option End} {i : Holding} {b : Bytes} → NodeView node h x a g e i b
        → Steps s h x a g e i b
    unfolding pick
    step s (rests {h} {x} {a} p) = rest s h x a p
    step s unknown = tt
    step s (begins {h} {job} {n} {d} c t room seat e) = begin s h _ _ c seat (began job c d t n room e).0 _ _
    step s idles = tt
    step s (steps {t} {n} {a} {c} {d} {room} {x} e) = λ on i. go t e on
      where
        go : (u : Turn) → at_turn u c n ≡ Ok (record { connection = d; sends = x }) → On s c room
            → Going (told_by entries node s (turns u n) a (gave_by room x)) (end_of d) (held_after (end_of d) d room) room
        go Turn.Asking f on = onward _ room d (subst (StepGoes Turn.Asking s room) f (ask_goes s c room on n))
        go Turn.Ticking f on = onward s room d (subst (StepGoes Turn.Ticking s room) f (tick_goes s c room on n))
    step s (answers {seq} {cmd} {payload} {c} {d} {room} e) =
        λ on i.
        rw (eq-eqb node node refl, ← not_refused s (heard entries s seq cmd payload) d)
        (onward (heard entries s seq cmd payload) _ d (reply_onward s c room on i seq cmd payload d e))

    -- ---- any calls
    -- what is held for the node, while no end was reported
    pub record Still (s : Story) (h : Host) : Type 0 where
      pub held_by : Connection
      pub room : Bytes
      pub held : holding h.manager h.store node ≡ Some (held_by, room)
      pub on : On s held_by room

    pub event_goes : (s : Story) (h : Host) → Sound h.manager h.store → Still s h → (x : Event)
        → Going (told entries node s x.call (made h x)) (end_for node (reported (made h x)))
        (holding (next h x).manager (next h x).store node) (bytes_in (holding h.manager h.store node) (next h x).store)
    event_goes s h sound still x =
        subst
        (λ (k : Holding).
        Steps s k x.call (made h x).done.answer (gave_to node (made h x).output (made h x).done.answer)
        (end_for node (reported (made h x))) (holding (next h x).manager (next h x).store node)
        (bytes_in (holding h.manager h.store node) (next h x).store))
        still.held (step s (event_view h sound node x)) still.on
        (consistent (held_is node h.store (Sane h.store) (live h.manager) sound.each still.held_by still.room still.held))
      where
        consistent : Sane h.store still.held_by × (still.room ≡ room_in h.store still.held_by) → Consistent still.held_by still.room
        consistent (sane, e) = subst (Consistent still.held_by) (sym e) sane.consistent

    -- the job's end was reported
    pub record Ended (s : Story) (why : Reason) (figure : ℕ) : Type 0 where
      pub room : Bytes
      pub over : Over s why figure room

    -- what a log comes to
    abbrev BringsBy : Option Reason → Log → Host → Type 0
    BringsBy None l h = Still l.story h
    BringsBy (Some why) l h = Ended l.story why l.figure

    abbrev pub Brings : Log → Host → Type 0
    Brings l h = BringsBy l.outcome l h

    pub followed : (xs : List Event) (s : Story) (h : Host) → Sound h.manager h.store → Still s h
        → Brings (follow entries node s h xs) (run h xs)
    followed [] s h sound still = still
    followed (x ∷ xs) s h sound still =
        go (end_for node (reported (made h x))) (holding (next h x).manager (next h x).store node) refl (event_goes s h sound still x)
        (λ still-on. followed xs (told entries node s x.call (made h x)) (next h x) (event_sound h x sound) still-on)
      where
        t : Story
        t = told entries node s x.call (made h x)

        go : (e : Option End) (i : Holding) → holding (next h x).manager (next h x).store node ≡ i
            → Going t e i (bytes_in (holding h.manager h.store node) (next h x).store)
            → (Still t (next h x) → Brings (follow entries node t (next h x) xs) (run (next h x) xs))
            → Brings (unless_ended e t (follow entries node t (next h x) xs)) (run (next h x) xs)
        go None None f g more = absurd g
        go None (Some (d, room)) f g more = more (record { held_by = d; room = room; held = f; on = g.1 })
        go (Some e) i f g more = record { room = _; over = g }
