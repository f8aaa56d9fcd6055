-- A connection that rests is left as it is by its turn, and gives nothing.
use Rattle.std.specs.Prelude.{Option, Some, None}
use Rattle.con_rec.specs.declared.Outgoing.{Outgoing}
use Prim.Native.Nat.{ℕ}
use native.Mathlib.Omega.{arith}
use mathlib.Core.Path.{◌≡◌, refl, sym, ◌∙◌}
use mathlib.Core.Bool.{Bool, true, false}
use Rattle.std.specs.Option.{is_some}
use Rattle.laws.specs.Pick.{pick}
use Rattle.connection.specs.Ask.{ask_free, ask_in, ask_of, quiet}
use Rattle.connection.specs.Tick.{tick_at, tick_of}
use Rattle.man_table.specs.Resting.{asks_nothing, not_yet, nothing_due, nothing_to_ask, rests_of, waits}
use Rattle.man_table.specs.Types.{Now, SdoClientConnection, SdoClientConnectionState, Turn}
use Rattle.man_table.specs.Walk.{at_turn}

no : {A : Type 0} → false ≡ true → A
no e = let z : ◌≡◌ {A = ℕ} 0 1 = cc e in absurd (omega arith)

state_quiet : (s : SdoClientConnectionState) (c : SdoClientConnection) (n : Now) → asks_nothing s ≡ true → ask_in s c n ≡ quiet c
state_quiet SdoClientConnectionState.Idle c n e = refl
state_quiet SdoClientConnectionState.Opening c n e = no e
state_quiet SdoClientConnectionState.Established c n e = no e
state_quiet SdoClientConnectionState.UploadInit c n e = refl
state_quiet SdoClientConnectionState.UploadInProgress c n e = no e
state_quiet SdoClientConnectionState.DownloadInProgress c n e = no e
state_quiet SdoClientConnectionState.Closed c n e = refl

free_quiet : (o : Option Outgoing) (c : SdoClientConnection) (n : Now) → pick (waits o) true (asks_nothing c.state) ≡ true → ask_free o c n ≡ quiet c
unfolding pick
free_quiet (Some o) c n e = refl
free_quiet None c n e = state_quiet c.state c n e

deadline_quiet : (d : Option ℕ) (c : SdoClientConnection) (n : Now) → not_yet d n.time ≡ true → tick_at d c n ≡ quiet c
unfolding pick
deadline_quiet None c n e = refl
deadline_quiet (Some d) c n e = rw e

pub rests_quiet : (t : Turn) (c : SdoClientConnection) (n : Now) → rests_of t c n ≡ true → at_turn t c n ≡ quiet c
unfolding nothing_to_ask nothing_due ask_of tick_of
rests_quiet Turn.Asking c n e = free_quiet c.waiting.last_sent_command c n e
rests_quiet Turn.Ticking c n e = deadline_quiet c.waiting.deadline c n e

-- with a command outstanding an ask gives nothing, and with none it goes by the state
module _ (c : SdoClientConnection) (r : Bool) (e : r ≡ is_some c.waiting.last_sent_command) where
  pub asks_never : r ≡ true → true ≡ nothing_to_ask c
  unfolding nothing_to_ask pick
  asks_never h = go c.waiting.last_sent_command (sym e ∙ h)
    where
      go : (o : Option Outgoing) → is_some o ≡ true → true ≡ pick (waits o) true (asks_nothing c.state)
      go None f = no f
      go (Some o) f = refl

  pub asks_by : (s : SdoClientConnectionState) (b : Bool) → r ≡ false → c.state ≡ s → b ≡ asks_nothing s → b ≡ nothing_to_ask c
  unfolding nothing_to_ask pick
  asks_by s b h f q = q ∙ go c.waiting.last_sent_command (sym e ∙ h)
    where
      go : (o : Option Outgoing) → is_some o ≡ false → asks_nothing s ≡ pick (waits o) true (asks_nothing c.state)
      go None g = rw f
      go (Some o) g = no (sym g)
