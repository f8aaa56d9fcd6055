-- `manager::change_start::load_change` meets its contract: the seat, and its connection's own answer.
use mathlib.Core.Path.{refl, ◌∙◌}
use Rattle.manager.specs.Calls.{loads}
use Rattle.manager.proofs.StartCalls.{seat_long, seat_other, start_on_lem, start_refused}
use Rattle.laws.proofs.Clauses.{value_store}
use Rattle.manager.proofs.change_start.load_change.Goals as goal

pub returns-in_default : goal.returns-in_default
returns-in_default c =
    let a = c.args in
    let other = rw c.in_default.is at c.as_mut_array.ensures.cases in
    value_store (start_refused _ a.store.now _ (seat_other _ _ other) a.m _ (loads a.mode a.dcf.now) a.when c.target_of-entry.ensures _ _ refl c.same.ensures)

pub returns-in-Ok : goal.returns-in-Ok
returns-in-Ok c =
    let a = c.args in
    let whole = rw c.in-Some.is at c.as_mut_array.ensures.cases in
    let seat = seat_long _ a.store.now _ c.seat_of.ensures whole.long in
    value_store (start_on_lem _ a.store.now _ seat a.m _ (loads a.mode a.dcf.now) a.when c.target_of-entry.ensures _ _ _ _ _ c.in-Ok.is c.next_transaction-number.ensures (rw whole.same at c.dcf_in.ensures.value) c.started.ensures (rw whole.same at c.dcf_in.ensures.store_after))

pub returns-in-Err : goal.returns-in-Err
returns-in-Err c =
    let a = c.args in
    let whole = rw c.in-Some.is at c.as_mut_array.ensures.cases in
    let seat = seat_long _ a.store.now _ c.seat_of.ensures whole.long in
    let r = start_refused _ a.store.now _ seat a.m _ (loads a.mode a.dcf.now) a.when c.target_of-entry.ensures _ _ c.in-Err.is c.same-in-Err.ensures in
    value_store (r.0, whole.same ∙ r.1)
