-- `manager::enter::insert` meets its contract.
use native.Mathlib.Omega.{arith}
use Rattle.man_table.specs.Table.{live}
use Rattle.manager.proofs.Insertion.{place_small, place_within, shifting_more, shifting_none}
use borrow.Author.Rules.{rules}
use Rattle.manager.proofs.enter.insert.Goals as goal

pub first_of-out-requires : goal.first_of-out-requires
first_of-out-requires c = search (rules, place_within)

pub offset_bounds-out-place : goal.offset_bounds-out-place
offset_bounds-out-place c =
    let a = c.args in
    let h = place_within a.c.target_node_id (live a.m) c.place_of-place.result c.place_of-place.ensures in
    omega arith

pub bounds-out-place : goal.bounds-out-place
bounds-out-place c = search (rules, place_small)

pub loop-i-init : goal.loop-i-init
loop-i-init c =
    let a = c.args in
    rw c.held-held.ensures
    (shifting_none (live a.m) _ a.c _ c.requires (place_within _ _ _ c.place_of-place.ensures) c.first_of-out.ensures)

pub loop-i-preserved : goal.loop-i-preserved
loop-i-preserved c = shifting_more _ _ _ _ _ _ c.loop-i.invariant c.loop-i-test.true
