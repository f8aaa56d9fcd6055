-- What tick gives is an abort, or the last command that ask gave the node since its job's start: the command outstanding is always that one, with the
-- payload that its room still says.
use Rattle.std.specs.Prelude.{Option, Some, None, Result, Ok, Err, IfSome}
use Rattle.std.specs.Option.{option_or}
use Prim.Native.Nat.{ℕ}
use mathlib.Core.Path.{◌≡◌, refl, sym, ◌∙◌, ap, subst}
use mathlib.Core.Bool.{true}
use mathlib.Core.List.{List, [], ◌∷◌}
use mathlib.Core.Logic.{◌⊎◌, inl, inr}
use lib.Dec.{eqb}
use lib.ListN.{length}
use borrow.Author.Tests.{eq-eqb, ne_eqb}
use Rattle.laws.specs.Pick.{pick}
use Rattle.laws.proofs.Choices.{decided}
use Rattle.codec.specs.Bytes.{Bytes, placed}
use Rattle.con_rec.specs.Commands.{command_of, sequence_of}
use Rattle.con_rec.specs.Payload.{payload_of}
use Rattle.con_rec.specs.Record.{end_of}
use Rattle.con_reply.proofs.ReplyCases.{ReplyView, aborted, again as same_number, other, reply_view, taken, unasked, wrong}
use Rattle.con_reply.specs.Reply.{cleared, replied, reply_in, reply_of, room_after}
use Rattle.connection.proofs.TurnView.{AskView, TickView, again, ask_view, early, ends, gives, late, never, over, silent, tick_view}
use Rattle.connection.specs.Ask.{ask_of}
use Rattle.connection.proofs.TickLaws.{AgainOrAbort, Ticked, tick_leaves}
use Rattle.connection.specs.Tick.{tick_of}
use Rattle.manager.specs.Calls.{After, Call, job_room, replies, starts, turns}
use Rattle.manager.specs.Value.{value_of}
use Rattle.manager.proofs.ValueCases.{value_by_lem}
use Rattle.man_table.specs.Table.{new_manager}
use Rattle.man_table.specs.Walk.{at_turn}
use Rattle.theorems.specs.Quiet.{Holding, holding}
use Rattle.theorems.specs.Run.{Event, Host, made, next, reached, run}
use Rattle.theorems.specs.Sound.{Reached, Sound}
use Rattle.theorems.specs.Story.{Gave}
use Rattle.theorems.specs.TickGives.{TickGives, after_reply, last_after, last_by, unless_answered}
use Rattle.theorems.specs.Types.{
  Answer,
  Decision,
  End,
  Now,
  Outgoing,
  Refusal,
  SdoClientConnection as Connection,
  SdoCommand,
  SequenceLayerHeader,
  Step,
  Turn,
}
use Rattle.theorems.proofs.AllReached.{all_sound, event_sound, new_sound}
use Rattle.theorems.proofs.JobKept.{Clear, clear_in}
use Rattle.theorems.proofs.JobStarts.{began}
use Rattle.theorems.proofs.NodeView.{Apart, NodeView, answers, begins, gave_by, idles, rests, steps, unknown}
use Rattle.theorems.proofs.NodeSees.{event_view}
use Rattle.theorems.proofs.Tracked.{held_after}

-- ---- the command outstanding is the last that ask gave
abbrev Echo : Gave → Option Outgoing → Bytes → Type 0
Echo last x room = IfSome x (λ (o : Outgoing). last ≡ gave_by room (Some o))

abbrev Echoes : Gave → Connection → Bytes → Type 0
Echoes last c room = Echo last c.waiting.last_sent_command room

abbrev EchoHeld : Gave → Holding → Type 0
EchoHeld last h = IfSome h (λ (p : Connection × Bytes). Echoes last p.0 p.1)

abbrev EchoTaken : Gave → Bytes → Result Connection Refusal → Type 0
EchoTaken last room (Ok d) = Echoes last d room
EchoTaken last room (Err r) = Unit {0}

echo_free : (last : Gave) (x : Option Outgoing) (room : Bytes) → x ≡ None → Echo last x room
echo_free last x room e = subst (λ (y : Option Outgoing). Echo last y room) (sym e) tt

echo_after : (last : Gave) (d : Connection) (room : Bytes) → Echoes last d room → EchoHeld last (held_after (end_of d) d room)
echo_after last d room h = go (end_of d)
  where
    go : (x : Option End) → EchoHeld last (held_after x d room)
    go None = h
    go (Some e) = tt

module _ (last : Gave) (c : Connection) (room : Bytes) (h : Echoes last c room) where
  abbrev EchoStep : Turn → Result Step Refusal → Type 0
  EchoStep Turn.Asking (Ok s) = Echoes (option_or (gave_by room s.sends) last) s.connection room
  EchoStep Turn.Ticking (Ok s) = Echoes last s.connection room
  EchoStep t (Err r) = Unit {0}

  ask_echo : (n : Now) → EchoStep Turn.Asking (ask_of c n)
  ask_echo n = go (ask_view c n)
    where
      go : {x : Result Step Refusal} → AskView c n x → EchoStep Turn.Asking x
      go (silent w) = h
      go (ends f e l p) = tt
      go (gives g k) = refl
      go (late g k) = tt

  tick_echo : (n : Now) → EchoStep Turn.Ticking (tick_of c n)
  tick_echo n = go (tick_view c n)
    where
      go : {x : Result Step Refusal} → TickView c n x → EchoStep Turn.Ticking x
      go (never e) = h
      go (early e k) = h
      go (over e k r) = tt
      go (again e k r l) = h
      go (late e k r l) = tt

  module _ (seq : SequenceLayerHeader) (cmd : SdoCommand) (payload : Bytes) where
    abbrev after : Gave
    after = unless_answered seq last

    abbrev EchoDecided : Decision → Type 0
    EchoDecided (Decision.Keeps d) = Echoes after d room
    EchoDecided (Decision.Stores d from) = Echoes after d (placed room from payload)
    EchoDecided Decision.NoRoom = Unit {0}

    cleared_echo : (x : Decision) → Clear x → EchoDecided x
    cleared_echo (Decision.Keeps d) e = echo_free after _ room e
    cleared_echo (Decision.Stores d from) e = echo_free after _ _ e
    cleared_echo Decision.NoRoom e = tt

    -- a reply to another command leaves the last one
    ignored : (o : Outgoing) → c.waiting.last_sent_command ≡ Some o → (seq.receive_sequence_number ≡ o.send → ⊥)
        → Echoes after c room
    unfolding pick
    ignored o e ne =
        let is : last ≡ Some (sequence_of o, command_of o, payload_of room o) = subst (λ (y : Option Outgoing). Echo last y room) e h in
        subst (λ (y : Option Outgoing). Echo after y room) (sym e)
        (ap (unless_answered seq) is ∙ rw (ne_eqb seq.receive_sequence_number o.send ne) refl)

    reply_echo : EchoDecided (reply_of seq cmd payload c room)
    reply_echo = go (reply_view seq cmd payload c room)
      where
        go : {x : Decision} → ReplyView seq cmd payload c room x → EchoDecided x
        go (unasked e) = echo_free after _ room e
        go (other {o} e f) = ignored o e f
        go (same_number f g) = tt
        go (wrong f g) = tt
        go (aborted f g a) = tt
        go (taken f ne g a) =
            cleared_echo
            (reply_in c.state seq cmd.header.segmentation (cleared c seq.send_sequence_number) (length payload) room)
            (clear_in c seq.send_sequence_number (length payload) room seq cmd.header.segmentation)

    taken_echo : (x : Decision) → EchoDecided x → EchoTaken after (room_after x payload room) (replied x)
    taken_echo (Decision.Keeps d) e = e
    taken_echo (Decision.Stores d from) e = e
    taken_echo Decision.NoRoom e = tt

-- ---- of any calls
module _ (node : ℕ) where
  apart_last : (last : Gave) (x : Call) (a : Answer) → Apart node x a → last_by node last x a None ≡ last
  unfolding pick
  apart_last last (starts k job n) a (inl ne) = rw (ne_eqb k node ne) refl
  apart_last last (starts k job n) Answer.Nothing (inr p) = absurd p
  apart_last last (starts k job n) (Answer.Sent s) (inr p) = absurd p
  apart_last last (starts k job n) (Answer.Value part) (inr p) = absurd p
  apart_last last (starts k job n) (Answer.Refused r) (inr p) =
      decided (λ (g : Gave). g ≡ last) (eqb k node) _ _ (λ e. refl) (λ e. refl)
  apart_last last (turns Turn.Asking n) a p = refl
  apart_last last (turns Turn.Ticking n) a p = refl
  apart_last last (replies k seq cmd payload) a (inl ne) = rw (ne_eqb k node ne) refl
  apart_last last (replies k seq cmd payload) Answer.Nothing (inr p) = absurd p
  apart_last last (replies k seq cmd payload) (Answer.Sent s) (inr p) = absurd p
  apart_last last (replies k seq cmd payload) (Answer.Value part) (inr p) = absurd p
  apart_last last (replies k seq cmd payload) (Answer.Refused r) (inr p) =
      decided (λ (g : Gave). g ≡ last) (eqb k node) _ _ (λ e. refl) (λ e. refl)

  -- whether it answers a value or nothing, a reply has answered the command
  answers_it : (seq : SequenceLayerHeader) (last : Gave) (d : Connection) → unless_answered seq last ≡ after_reply (value_of d) seq last
  answers_it seq last = value_by_lem (λ (a : Answer). unless_answered seq last ≡ after_reply a seq last) refl (λ part. refl)

  call_echo : (last : Gave) {h : Holding} {x : Call} {a : Answer} {g : Gave} {e : Option End} {i : Holding} {b : Bytes}
      → NodeView node h x a g e i b → EchoHeld last h → EchoHeld (last_by node last x a g) i
  unfolding pick
  call_echo last (rests {h} {x} {a} p) k = subst (λ (g : Gave). EchoHeld g h) (sym (apart_last last x a p)) k
  call_echo last unknown k = tt
  call_echo last (begins {h} {job} {n} {d} c t room seat e) k =
      subst (EchoTaken _ (job_room job room)) (began job c d t n room e).2 tt
  call_echo last idles k = tt
  call_echo last (steps {t} {n} {a} {c} {d} {room} {x} e) k = go t e
    where
      go : (u : Turn) → at_turn u c n ≡ Ok (record { connection = d; sends = x })
          → EchoHeld (last_by node last (turns u n) a (gave_by room x)) (held_after (end_of d) d room)
      go Turn.Asking f = echo_after _ d room (subst (EchoStep last c room k Turn.Asking) f (ask_echo last c room k n))
      go Turn.Ticking f = echo_after last d room (subst (EchoStep last c room k Turn.Ticking) f (tick_echo last c room k n))
  call_echo last (answers {seq} {cmd} {payload} {c} {d} {room} e) k =
      rw (eq-eqb node node refl, ← answers_it seq last d)
      (echo_after (unless_answered seq last) d _
      (subst (EchoTaken (unless_answered seq last) (room_after (reply_of seq cmd payload c room) payload room)) e
      (taken_echo last c room k seq cmd payload (reply_of seq cmd payload c room) (reply_echo last c room k seq cmd payload))))

  run_echo : (xs : List Event) (last : Gave) (h : Host) → Sound h.manager h.store → EchoHeld last (holding h.manager h.store node)
      → EchoHeld (last_after node last h xs) (holding (run h xs).manager (run h xs).store node)
  run_echo [] last h sound e = e
  run_echo (x ∷ xs) last h sound e =
      run_echo xs _ (next h x) (event_sound h x sound) (call_echo last (event_view h sound node x) e)

  -- ---- what tick gives
  abbrev Said : Gave → Gave → Type 0
  Said last None = Unit {0}
  Said last (Some (seq, cmd, payload)) = (cmd.header.is_aborted ≡ true) ⊎ (last ≡ Some (seq, cmd, payload))

  abbrev Ticks : Gave → Holding → Call → Gave → Type 0
  Ticks last h (starts k job n) g = Unit {0}
  Ticks last h (turns Turn.Asking n) g = Unit {0}
  Ticks last h (turns Turn.Ticking n) g = EchoHeld last h → Said last g
  Ticks last h (replies k seq cmd payload) g = Unit {0}

  apart_ticks : (last : Gave) (h : Holding) (x : Call) → Ticks last h x None
  apart_ticks last h (starts k job n) = tt
  apart_ticks last h (turns Turn.Asking n) = tt
  apart_ticks last h (turns Turn.Ticking n) = λ e. tt
  apart_ticks last h (replies k seq cmd payload) = tt

  abbrev SaidStep : Gave → Bytes → Result Step Refusal → Type 0
  SaidStep last room (Ok s) = Said last (gave_by room s.sends)
  SaidStep last room (Err r) = Unit {0}

  tick_said : (last : Gave) (c : Connection) (room : Bytes) → Echoes last c room → (n : Now) → SaidStep last room (tick_of c n)
  tick_said last c room h n = step (tick_of c n) (tick_leaves c n)
    where
      said : (x : Option Outgoing) → AgainOrAbort c x → Said last (gave_by room x)
      said None g = tt
      said (Some o) (inl e) = inl (ap (λ (y : Outgoing). (command_of y).header.is_aborted) e)
      said (Some o) (inr e) = inr (subst (λ (y : Option Outgoing). Echo last y room) e h)

      step : (x : Result Step Refusal) → Ticked c x → SaidStep last room x
      step (Ok x) g = said x.sends g.0
      step (Err r) g = tt

  call_ticks : (last : Gave) {h : Holding} {x : Call} {a : Answer} {g : Gave} {e : Option End} {i : Holding} {b : Bytes}
      → NodeView node h x a g e i b → Ticks last h x g
  call_ticks last (rests {h} {x} {a} p) = apart_ticks last h x
  call_ticks last unknown = tt
  call_ticks last (begins c t room seat e) = tt
  call_ticks last idles = tt
  call_ticks last (steps {t} {n} {a} {c} {d} {room} {x} e) = go t e
    where
      go : (u : Turn) → at_turn u c n ≡ Ok (record { connection = d; sends = x })
          → Ticks last (Some (c, room)) (turns u n) (gave_by room x)
      go Turn.Asking f = tt
      go Turn.Ticking f = λ k. subst (SaidStep last room) f (tick_said last c room k n)
  call_ticks last (answers e) = tt

pub tick_gives : TickGives
unfolding TickGives Reached pick
tick_gives lent events now lends output s e =
    let host : Host = reached lent events in
    let x : Event = record { call = turns Turn.Ticking now; lends = lends; output = output } in
    let a : After = made host x in
    let said = call_ticks s.node _ (event_view host (all_sound lent events) s.node x)
    (run_echo s.node events None (record { manager = new_manager; store = lent }) (new_sound lent) tt) in
    rw (e, eq-eqb s.node s.node refl) at said
