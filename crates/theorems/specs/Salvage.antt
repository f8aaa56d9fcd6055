-- A repaired DCF as a job (document 02, CR 3), of any calls. Started and taken, it never ends Cut: it ends Complete where it ends Complete or Cut at all.
-- What it sends are the readable entries of the old DCF, in demand 3's words.
use Rattle.std.specs.Prelude.{ℕ, ◌≡◌, List, length, Some}
use Rattle.codec.specs.Bytes.{Bytes}
use Rattle.codec.specs.Dcf.{readable_entries}
use Rattle.codec_salvage.specs.Repair.{Octets}
use Rattle.codec_salvage.specs.Salvage.{repaired}
use Rattle.con_reply.specs.Delivery.{For, pieces}
use Rattle.manager.specs.Calls.{loads}
use Rattle.theorems.specs.Run.{Event, Host, made, next, reached, starting}
use Rattle.theorems.specs.Story.{Log, follow, untold}
use Rattle.theorems.specs.Types.{Answer, Mode, Now, Reason}

-- of any calls from a new manager, a start of a repaired DCF that is taken, and any calls and replies after it
unfoldable pub SalvagedLoads : Type 0
SalvagedLoads =
    (lent : Bytes) (earlier : List Event) (node : ℕ) (mode : Mode) (old : Bytes) (now : Now) (later : List Event) → Octets old
    → let host : Host = reached lent earlier in
    let start : Event = starting node (loads mode (repaired old)) now in
    let entries : List Bytes = readable_entries old in
    let log : Log = follow entries node untold (next host start) later in
    (made host start).done.answer ≡ Answer.Nothing
    → (log.outcome ≡ Some Reason.Cut → ⊥)
    × For entries (length entries) (pieces log.story.asks) log.outcome log.figure
