-- `replay_line::value::write_value` meets its contract: refused without room, and else the text.
use borrow.Author.Rules.{rules}
use native.Mathlib.Omega.{arith}
use mathlib.Core.Path.{ap, ◌∙◌}
use Rattle.std.specs.Prelude.{Err}
use Rattle.std.proofs.lemmas.Result.{err_from_is_err_and}
use Rattle.replay_line.proofs.Lines.{no_room, room_left, text_written}
use Rattle.replay_line.proofs.value.write_value.Goals as goal

pub returns-in_err-room-clause-value : goal.returns-in_err-room-clause-value
returns-in_err-room-clause-value c =
    let x = err_from_is_err_and c.from_residual.result c.from_residual.ensures.1 in
    x.1 ∙ ap Err x.2 ∙ (no_room _ _ c.room.ensures _ c.in_err-room.was).0

pub returns-in_err-room-clause-out_after : goal.returns-in_err-room-clause-out_after
returns-in_err-room-clause-out_after c = (no_room _ _ c.room.ensures _ c.in_err-room.was).1

pub put_value-requires : goal.put_value-requires
put_value-requires c = let l = room_left _ _ c.room.ensures c.in_ok-room.was in omega arith

pub returns-clause-value : goal.returns-clause-value
returns-clause-value c =
    (text_written _ _ (room_left _ _ c.room.ensures c.in_ok-room.was) c.put_value.ensures (omega arith)).0

pub returns-clause-out_after : goal.returns-clause-out_after
returns-clause-out_after c =
    let p = c.put_value.ensures in
    let s = p.same_buffer in
    let w = (text_written _ _ (room_left _ _ c.room.ensures c.in_ok-room.was) p (omega arith)).1.0 in
    search (rules, w, s)
