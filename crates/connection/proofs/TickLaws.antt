-- What tick gives and what it leaves: the abort command or the command outstanding, again; and the job as it was.
use Rattle.std.specs.Prelude.{Option, Some, None, Result, Ok, Err}
use Rattle.codec.specs.declared.refusal.Refusal.{Refusal}
use Rattle.con_rec.specs.declared.Outgoing.{Outgoing}
use Rattle.con_rec.specs.declared.Step.{Step}
use mathlib.Core.Path.{◌≡◌, refl}
use mathlib.Core.Logic.{◌⊎◌, inl, inr}
use Rattle.con_rec.specs.Commands.{abort_command}
use Rattle.connection.specs.Tick.{tick_of}
use Rattle.connection.specs.Types.{Now, SdoClientConnection as Connection}
use Rattle.connection.proofs.TurnView.{TickView, again, early, late, never, over, tick_view}

abbrev pub AgainOrAbort : Connection → Option Outgoing → Type 0
AgainOrAbort c None = Unit {0}
AgainOrAbort c (Some o) = (o ≡ abort_command c) ⊎ (c.waiting.last_sent_command ≡ Some o)

abbrev pub Ticked : Connection → Result Step Refusal → Type 0
Ticked c (Ok s) = AgainOrAbort c s.sends × (s.connection.job ≡ c.job)
Ticked c (Err r) = Unit {0}

pub tick_leaves : (c : Connection) (n : Now) → Ticked c (tick_of c n)
tick_leaves c n = go (tick_view c n)
  where
    repeats : (x : Option Outgoing) → c.waiting.last_sent_command ≡ x → AgainOrAbort c x
    repeats None e = tt
    repeats (Some o) e = inr e

    go : {x : Result Step Refusal} → TickView c n x → Ticked c x
    go (never e) = (tt, refl)
    go (early e h) = (tt, refl)
    go (over e h r) = (inl refl, refl)
    go (again e h r k) = (repeats c.waiting.last_sent_command refl, refl)
    go (late e h r k) = tt
