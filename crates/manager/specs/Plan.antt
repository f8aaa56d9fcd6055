-- The fast way of a call, for a loop that keeps the manager where it is: the call's plan, which is a change, or the walk where several connections may
-- change. Carried out, a plan is the call (proofs' PlanCalls).
use Rattle.std.specs.Prelude.{ℕ, ltb, eqb, length, Option, Some, None, Result, Ok, Err}
use Rattle.codec.specs.declared.refusal.Refusal.{Refusal}
use Rattle.con_rec.specs.declared.SdoClientConnection.{SdoClientConnection}
use Rattle.con_rec.specs.declared.Outgoing.{Outgoing}
use Rattle.con_rec.specs.declared.Step.{Step}
use Rattle.laws.specs.Pick.{pick}
use Rattle.codec.specs.Bytes.{Bytes}
use Rattle.codec.specs.Writing.{buffer_after}
use Rattle.con_rec.specs.Payload.{payload_of}
use Rattle.man_table.specs.Resting.{due_in}
use Rattle.man_table.specs.Table.{held_at, live, room_in, store_size}
use Rattle.man_table.specs.Walk.{at_turn}
use Rattle.manager.specs.Calls.{After, Call, carried_out, output_size, replies, reply_from, sent_to, start_of, starts, turn_of, turns}
use Rattle.manager.specs.Change.{putting, same}
use Rattle.manager.specs.Types.{
  Answer,
  Change,
  Entry,
  Now,
  Plan,
  Refusal,
  SdoClientConnection,
  SdoClientManager,
  Turn,
}

-- a plan, and the store and the output ahead of it
pub record Planned : Type 0 where
  pub plan : Plan
  pub store : Bytes
  pub output : Bytes

abbrev pub plan_change : Change → Bytes → Bytes → Planned
plan_change change store output = record { plan = Plan.Change change; store = store; output = output }

-- ---- tick and ask: the first connection that does not rest gives a command, or all rest, or several may change

abbrev pub plan_given : Option Outgoing → SdoClientConnection → Turn → ℕ → Now → Bytes → Bytes → Planned
plan_given (Some o) d t k n store output =
    plan_change (putting (Entry.At k d) (sent_to d o)) store (buffer_after (payload_of (room_in store d) o) output)
plan_given None d t k n store output = record { plan = Plan.Walk t n; store = store; output = output }

abbrev pub plan_step : Result Step Refusal → Turn → ℕ → Now → Bytes → Bytes → Planned
plan_step (Err r) t k n store output = plan_change (same (Answer.Refused r)) store output
plan_step (Ok s) t k n store output = plan_given s.sends s.connection t k n store output

abbrev pub plan_at : Option ℕ → Turn → SdoClientManager → Now → Bytes → Bytes → Planned
plan_at None t m n store output = plan_change (putting Entry.Nowhere Answer.Nothing) store output
plan_at (Some k) t m n store output = plan_step (at_turn t (held_at m k) n) t k n store output

unfoldable pub turn_plan : Turn → SdoClientManager → Now → Bytes → Bytes → Planned
turn_plan t m n store output =
    pick (eqb (length store) store_size)
    (pick (ltb (length output) output_size)
    (plan_change (same (Answer.Refused Refusal.BufferTooShort)) store output)
    (plan_at (due_in t n (live m)) t m n store output))
    (plan_change (same (Answer.Refused Refusal.WrongStore)) store output)

-- ---- any call, and what a plan comes to

unfoldable pub plan_of : SdoClientManager → Bytes → Bytes → Call → Planned
plan_of m store output (starts node job n) =
    plan_change (start_of m node job n store).change (start_of m node job n store).store output
plan_of m store output (turns t n) = turn_plan t m n store output
plan_of m store output (replies node seq cmd payload) =
    plan_change (reply_from m node seq cmd payload store).change (reply_from m node seq cmd payload store).store output

abbrev pub plan_done : Plan → SdoClientManager → Bytes → Bytes → After
plan_done (Plan.Change c) m store output = carried_out m (record { change = c; store = store }) output
plan_done (Plan.Walk t n) m store output = turn_of t m n store output
