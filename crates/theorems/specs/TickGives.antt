-- What tick gives is an abort, or a timeout repeat: the last command that ask gave that node since its job's start, not answered since, with the same
-- sequence header, the same command and the same payload bytes. So of what tick gives, demand 3 drops just what it says to drop.
use Rattle.std.specs.Prelude.{ℕ, ◌≡◌, true, List, [], ◌∷◌, ◌⊎◌, eqb, take, Some, None}
use Rattle.std.specs.Option.{option_or}
use Rattle.laws.specs.Pick.{pick}
use Rattle.codec.specs.Bytes.{Bytes}
use Rattle.manager.specs.Calls.{After, Call, replies, starts, turns}
use Rattle.man_table.specs.Table.{new_manager}
use Rattle.theorems.specs.Run.{Event, Host, Lends, made, next, reached}
use Rattle.theorems.specs.Story.{Gave, gave_to}
use Rattle.theorems.specs.Types.{Answer, Now, SentTo, SequenceLayerHeader, Turn}

-- a start that is taken begins anew
abbrev pub unless_taken : Answer → Gave → Gave
unless_taken Answer.Nothing last = None
unless_taken (Answer.Sent s) last = last
unless_taken (Answer.Value part) last = last
unless_taken (Answer.Refused r) last = last

-- a reply whose receive number is the command's answers it; a refused reply has not happened
abbrev pub unless_answered : SequenceLayerHeader → Gave → Gave
unless_answered seq None = None
unless_answered seq (Some (h, cmd, payload)) =
    pick (eqb seq.receive_sequence_number h.send_sequence_number) None (Some (h, cmd, payload))

abbrev pub after_reply : Answer → SequenceLayerHeader → Gave → Gave
after_reply Answer.Nothing seq last = unless_answered seq last
after_reply (Answer.Sent s) seq last = last
after_reply (Answer.Value part) seq last = unless_answered seq last
after_reply (Answer.Refused r) seq last = last

-- the last command that ask gave a node since its job's start and that was not answered, after one call more
abbrev pub last_by : ℕ → Gave → Call → Answer → Gave → Gave
last_by node last (starts k job n) x g = pick (eqb k node) (unless_taken x last) last
last_by node last (turns Turn.Asking n) x g = option_or g last
last_by node last (turns Turn.Ticking n) x g = last
last_by node last (replies k seq cmd payload) x g = pick (eqb k node) (after_reply x seq last) last

abbrev pub last_after : ℕ → Gave → Host → List Event → Gave
last_after node last h [] = last
last_after node last h (x ∷ xs) =
    let a : After = made h x in
    last_after node (last_by node last x.call a.done.answer (gave_to node a.output a.done.answer)) (next h x) xs

abbrev pub last_asked : ℕ → Bytes → List Event → Gave
last_asked node store events = last_after node None (record { manager = new_manager; store = store }) events

unfoldable pub TickGives : Type 0
TickGives =
    (lent : Bytes) (events : List Event) (now : Now) (lends : Lends) (output : Bytes) (s : SentTo)
    → let a : After = made (reached lent events) (record { call = turns Turn.Ticking now; lends = lends; output = output }) in
    a.done.answer ≡ Answer.Sent s
    → (s.command.header.is_aborted ≡ true)
    ⊎ (last_asked s.node lent events ≡ Some (s.sequence, s.command, take s.command.header.segment_size a.output))
