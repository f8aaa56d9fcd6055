-- Tick and ask walk nodes in ascending order and stop calling connections at the first that gives a command. If a deadline on that walk
-- doesn't fit, the whole call is refused (document 01, "The manager").
use Rattle.std.specs.Prelude.{ℕ, suc, List, [], ◌∷◌, ◌++◌, drop, Option, Some, None, Result, Ok, Err}
use Rattle.codec.specs.declared.refusal.Refusal.{Refusal}
use Rattle.con_rec.specs.declared.SdoClientConnection.{SdoClientConnection}
use Rattle.con_rec.specs.declared.Outgoing.{Outgoing}
use Rattle.con_rec.specs.declared.Step.{Step}
use Rattle.connection.specs.Ask.{ask_of}
use Rattle.connection.specs.Tick.{tick_of}
use Rattle.man_table.specs.Table.{live}
use Rattle.man_table.specs.Types.{
  Now,
  Outgoing,
  Refusal,
  SdoClientConnection,
  SdoClientManager,
  Turn,
  Walk,
  Walked,
}

-- what a connection does at its turn
abbrev pub at_turn : Turn → SdoClientConnection → Now → Result Step Refusal
at_turn Turn.Asking c n = ask_of c n
at_turn Turn.Ticking c n = tick_of c n

-- how a walk of a list comes out: the connections after it, and where it was left
pub data Walking : Type 0 where
  refused : Refusal → Walking
  through : List SdoClientConnection → Walking
  stopped : ℕ → Outgoing → List SdoClientConnection → Walking

-- a walk of the rest, with a connection passed before it
abbrev pub passed : SdoClientConnection → Walking → Walking
passed d (refused r) = refused r
passed d (through l) = through (d ∷ l)
passed d (stopped k o l) = stopped (suc k) o (d ∷ l)

abbrev pub stop_or : Option Outgoing → SdoClientConnection → List SdoClientConnection → Walking → Walking
stop_or (Some o) d rest on = stopped 0 o (d ∷ rest)
stop_or None d rest on = passed d on

abbrev pub walk_step : Result Step Refusal → List SdoClientConnection → Walking → Walking
walk_step (Err r) rest on = refused r
walk_step (Ok s) rest on = stop_or s.sends s.connection rest on

abbrev pub walk_list : Turn → Now → List SdoClientConnection → Walking
walk_list t n [] = through []
walk_list t n (c ∷ rest) = walk_step (at_turn t c n) rest (walk_list t n rest)

-- the manager with a list in the held places: those past them, count and transaction counter are as they were
abbrev pub with_held : SdoClientManager → List SdoClientConnection → SdoClientManager
with_held m l =
    record {
      connections = l ++ drop m.count m.connections;
      count = m.count;
      next_transaction_id = m.next_transaction_id;
    }

abbrev pub walk_answer : SdoClientManager → Walking → Walk
walk_answer m (refused r) = record { manager = m; walked = Walked.Refused r }
walk_answer m (through l) = record { manager = with_held m l; walked = Walked.Through }
walk_answer m (stopped k o l) = record { manager = with_held m l; walked = Walked.Stopped k o }

unfoldable pub walk_of : SdoClientManager → Turn → Now → Walk
walk_of m t n = walk_answer m (walk_list t n (live m))
