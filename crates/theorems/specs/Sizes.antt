-- Ask and tick alone give commands. What they give has a segment size of at most 1,452, and the output behind so many bytes is as it was.
use Rattle.std.specs.Prelude.{◌≤◌, ◌≡◌, List, drop}
use Rattle.codec.specs.Bytes.{Bytes}
use Rattle.con_rec.specs.Parts.{most}
use Rattle.manager.specs.Calls.{After, Call, replies, starts, turns}
use Rattle.theorems.specs.Run.{Event, made, reached}
use Rattle.theorems.specs.Types.{Answer, SentTo}

abbrev pub IsTurn : Call → Type 0
IsTurn (starts node job n) = ⊥
IsTurn (turns t n) = Unit {0}
IsTurn (replies node seq cmd payload) = ⊥

unfoldable pub Sizes : Type 0
Sizes =
    (lent : Bytes) (events : List Event) (x : Event) (s : SentTo)
    → let a : After = made (reached lent events) x in
    a.done.answer ≡ Answer.Sent s
    → IsTurn x.call
    × (s.command.header.segment_size ≤ most)
    × (drop s.command.header.segment_size a.output ≡ drop s.command.header.segment_size x.output)
