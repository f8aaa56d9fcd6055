-- `replay_piece::replay::moved` meets its contract: the plan, and its line or its value, which has room.
use mathlib.Core.Path.{refl}
use Rattle.manager.proofs.PlanCalls.{plan_keeps}
use borrow.Author.Rules.{rules}
use Rattle.laws.proofs.Clauses.{value_output_text}
use Rattle.replay_piece.proofs.LineRoom.{has_room, line_told}
use Rattle.replay_piece.proofs.replay.moved.Goals as goal

pub unwrap-n-requires : goal.unwrap-n-requires
unwrap-n-requires c = has_room _ _ _ c.requires _ c.write_value.ensures.value

pub returns-in-Values : goal.returns-in-Values
returns-in-Values c =
    let o = c.object_of-object.ensures in
    let n = c.node_of.ensures in
    let v = c.in-Values.is in
    let w = c.value_after-value.ensures in
    let a = c.args in
    let k = plan_keeps a.plan a.run.manager a.store.now a.output.now in
    let t = line_told _ _ _ c.requires _ c.write_value.ensures.value c.unwrap-n.ensures c.write_value.ensures.short c.write_value.ensures.out_after in
    value_output_text (rw (v, ← k, ← c.carry_out-answer.ensures.value, ← c.carry_out-answer.ensures.output_after, ← n, ← o) (rw (t.0, w), (refl, (t.1.0, (search rules, t.1.1)))))

pub unwrap-n-requires-2 : goal.unwrap-n-requires-2
unwrap-n-requires-2 c = has_room _ _ _ c.requires _ c.write_line.ensures.value

pub returns : goal.returns
returns c =
    let v = c.in_default.is in
    let w = c.value_after-value.ensures in
    let t = line_told _ _ _ c.requires _ c.write_line.ensures.value c.unwrap-n-2.ensures c.write_line.ensures.short c.write_line.ensures.out_after in
    value_output_text (rw (v, ← c.carry_out-answer.ensures.value, ← c.carry_out-answer.ensures.output_after) (rw (t.0, w), (refl, (t.1.0, (search rules, t.1.1)))))
