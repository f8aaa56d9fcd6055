-- Which connections rest at a turn: the record shows at a glance that the turn leaves them as they are and gives nothing. And the first
-- that does not.
use Rattle.std.specs.Prelude.{ℕ, Bool, true, false, List, [], ◌∷◌, ltb, Option, Some, None}
use Rattle.con_rec.specs.declared.SdoClientConnection.{SdoClientConnection}
use Rattle.con_rec.specs.declared.Outgoing.{Outgoing}
use Rattle.laws.specs.Pick.{pick}
use Rattle.man_table.specs.Table.{one_further}
use Rattle.man_table.specs.Types.{
  Now,
  SdoClientConnection,
  SdoClientConnectionState,
  Turn,
}

-- An ask gives nothing where a command is outstanding, and in states that send nothing.
abbrev pub waits : Option Outgoing → Bool
waits (Some o) = true
waits None = false

abbrev pub asks_nothing : SdoClientConnectionState → Bool
asks_nothing SdoClientConnectionState.Idle = true
asks_nothing SdoClientConnectionState.Opening = false
asks_nothing SdoClientConnectionState.Established = false
asks_nothing SdoClientConnectionState.UploadInit = true
asks_nothing SdoClientConnectionState.UploadInProgress = false
asks_nothing SdoClientConnectionState.DownloadInProgress = false
asks_nothing SdoClientConnectionState.Closed = true

unfoldable pub nothing_to_ask : SdoClientConnection → Bool
nothing_to_ask c = pick (waits c.waiting.last_sent_command) true (asks_nothing c.state)

-- A tick does nothing before the deadline, and where there is none.
abbrev pub not_yet : Option ℕ → ℕ → Bool
not_yet None time = true
not_yet (Some d) time = ltb time d

unfoldable pub nothing_due : SdoClientConnection → Now → Bool
nothing_due c n = not_yet c.waiting.deadline n.time

abbrev pub rests_of : Turn → SdoClientConnection → Now → Bool
rests_of Turn.Asking c n = nothing_to_ask c
rests_of Turn.Ticking c n = nothing_due c n

-- the place of the first that does not rest
abbrev pub due_in : Turn → Now → List SdoClientConnection → Option ℕ
due_in t n [] = None
due_in t n (c ∷ l) = pick (rests_of t c n) (one_further (due_in t n l)) (Some 0)
