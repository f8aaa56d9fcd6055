-- `manager::turn::take_turn` meets its contract: 9, 1, then what the walk came to.
use mathlib.Core.Path.{◌∙◌}
use Rattle.laws.proofs.Picks.{below, is, is_not, not_below}
use Rattle.manager.specs.Calls.{called, turn_of}
use Rattle.manager.proofs.Parts.{after_parts}
use Rattle.manager.proofs.WalkCalls.{turn_refused, turn_stopped, turn_through}
use Rattle.laws.proofs.Clauses.{value_output}
use Rattle.manager.proofs.turn.take_turn.Goals as goal

pub returns-then-output-lt-OUTPUT_SIZE : goal.returns-then-output-lt-OUTPUT_SIZE
unfolding called turn_of
returns-then-output-lt-OUTPUT_SIZE c =
    value_output (after_parts c.args.store.now
    (is _ _ _ _ (rw c.in-Some.is at c.as_array.ensures.cases).long (below _ _ _ _ c.if-output-lt-OUTPUT_SIZE.true (rw c.refusing-then-output-lt-OUTPUT_SIZE.ensures))))

pub returns-in-Refused : goal.returns-in-Refused
unfolding called turn_of
returns-in-Refused c =
    let a = c.args in
    let x = turn_refused a.m a.t a.n a.store.now a.output.now _ c.walk-w.ensures _ c.in-Refused.is in
    value_output (after_parts a.store.now
    (is _ _ _ _ (rw c.in-Some.is at c.as_array.ensures.cases).long
    (not_below _ _ _ _ c.if-output-lt-OUTPUT_SIZE.false (rw c.refusing-in-Refused.ensures x))))

pub returns-in-Through : goal.returns-in-Through
unfolding called turn_of
returns-in-Through c =
    let a = c.args in
    let x = turn_through a.m a.t a.n a.store.now a.output.now _ c.walk-w.ensures c.in-Through.is in
    value_output (after_parts a.store.now
    (is _ _ _ _ (rw c.in-Some.is at c.as_array.ensures.cases).long
    (not_below _ _ _ _ c.if-output-lt-OUTPUT_SIZE.false (rw c.leaving.ensures x))))

pub returns-in-Stopped : goal.returns-in-Stopped
unfolding called turn_of
returns-in-Stopped c =
    let a = c.args in
    let x =
    turn_stopped a.m a.t a.n a.store.now a.output.now _ c.walk-w.ensures _ _ _ _ c.in-Stopped.is
    c.held_at-c.ensures (c.write_payload.ensures.output_after ∙ rw (c.room_in.ensures, (rw c.in-Some.is at c.as_array.ensures.cases).same)) in
    value_output (after_parts a.store.now
    (is _ _ _ _ (rw c.in-Some.is at c.as_array.ensures.cases).long
    (not_below _ _ _ _ c.if-output-lt-OUTPUT_SIZE.false
    (rw (c.leaving-in-Stopped.ensures, c.sent_to.ensures) x))))

pub returns-in_default : goal.returns-in_default
unfolding called turn_of
returns-in_default c =
    value_output (after_parts c.args.store.now (is_not _ _ _ _ (rw c.in_default.is at c.as_array.ensures.cases) (rw c.refusing.ensures)))
