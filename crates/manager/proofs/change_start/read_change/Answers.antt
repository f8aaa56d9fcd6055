-- `manager::change_start::read_change` meets its contract: the seat, and its connection's own answer.
use mathlib.Core.Path.{refl}
use Rattle.manager.specs.Calls.{reads}
use Rattle.manager.proofs.StartCalls.{seat_long, seat_other, start_on_lem, start_refused}
use Rattle.manager.proofs.change_start.read_change.Goals as goal

pub returns-then-store-ne-STORE_SIZE : goal.returns-then-store-ne-STORE_SIZE
returns-then-store-ne-STORE_SIZE c =
    let a = c.args in
    (start_refused _ a.store.now _ (seat_other _ _ c.if-store-ne-STORE_SIZE.true) a.m _ (reads a.mode a.index a.sub_index) a.when c.target_of-entry.ensures _ _ refl c.same.ensures).0

pub returns-in-Ok : goal.returns-in-Ok
returns-in-Ok c =
    let a = c.args in
    let seat = seat_long _ a.store.now _ c.seat_of.ensures c.if-store-ne-STORE_SIZE.false in
    (start_on_lem _ a.store.now _ seat a.m _ (reads a.mode a.index a.sub_index) a.when c.target_of-entry.ensures _ _ _ _ _ c.in-Ok.is c.next_transaction-number.ensures c.start_read_job.ensures c.started.ensures refl).0

pub returns-in-Err : goal.returns-in-Err
returns-in-Err c =
    let a = c.args in
    let seat = seat_long _ a.store.now _ c.seat_of.ensures c.if-store-ne-STORE_SIZE.false in
    (start_refused _ a.store.now _ seat a.m _ (reads a.mode a.index a.sub_index) a.when c.target_of-entry.ensures _ _ c.in-Err.is c.same-in-Err.ensures).0
