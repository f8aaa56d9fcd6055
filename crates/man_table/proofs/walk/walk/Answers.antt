-- `man_table::walk::walk` meets its contract.
use Rattle.man_table.proofs.WalkLoop.{going_more, going_rest, passes, refuses, stops}
use Rattle.man_table.proofs.walk.walk.Goals as goal

pub loop-i-preserved-then-rests : goal.loop-i-preserved-then-rests
loop-i-preserved-then-rests c =
    let k = c.loop-i.invariant in
    (going_rest _ _ _ _ _ _ _ _ k.0 c.loop-i-test.true c.rests.ensures c.if-rests.true, k.1, k.2)

pub loop-i-preserved : goal.loop-i-preserved
loop-i-preserved c =
    let k = c.loop-i.invariant in
    (going_more _ _ _ _ _ _ _ k.0 c.loop-i-test.true _ c.at_turn.ensures _ c.in-Ok.is c.in_default.is, record { count = k.1.count; number = k.1.number }, k.2)

pub returns-in-Some : goal.returns-in-Some
returns-in-Some c =
    let k = c.loop-i.invariant in
    stops _ _ _ _ c.lived-held.ensures _ _ k.1 k.0 _ c.loop-i-test.true _ c.at_turn.ensures _ _ c.in-Ok.is c.in-Some.is

pub returns-in-Err : goal.returns-in-Err
returns-in-Err c =
    let k = c.loop-i.invariant in
    refuses _ _ _ _ c.lived-held.ensures _ _ k.1 k.0 _ c.loop-i-test.true _ c.at_turn.ensures _ c.in-Err.is

pub returns : goal.returns
returns c =
    passes _ _ _ _ c.lived-held.ensures _ _ c.loop-i.invariant.1 c.loop-i.invariant.0 c.loop-i-test.false
