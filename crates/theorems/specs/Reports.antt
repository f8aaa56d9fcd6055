-- One call reports up to eight ends, ascending (document 01, "The manager").
use Rattle.std.specs.Prelude.{AllPairs, ◌≤◌, ◌<◌, List, length}
use Rattle.codec.specs.Bytes.{Bytes}
use Rattle.theorems.specs.Run.{Event, made, reached, reported}
use Rattle.theorems.specs.Types.{End}

abbrev pub Ascending : List End → Type 0
Ascending l = AllPairs (λ (d e : End). d.node < e.node) l

unfoldable pub Reports : Type 0
Reports =
    (lent : Bytes) (earlier : List Event) (x : Event)
    → let ends : List End = reported (made (reached lent earlier) x) in (length ends ≤ 8) × Ascending ends
