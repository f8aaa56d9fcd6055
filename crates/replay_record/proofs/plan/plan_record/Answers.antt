-- `replay_record::plan::plan_record` meets its contract: the gather buffer, the record, and the operation's own answer.
use native.Mathlib.Omega.{arith}
use mathlib.Core.Path.{refl, sym, ◌∙◌}
use Rattle.replay_record.proofs.RecordPlan.{plans, reads, unread}
use Rattle.replay_record.proofs.ReadRecord.{own_short}
use Rattle.replay_record.proofs.plan.plan_record.Goals as goal

pub returns-then-gather-lt-GATHER_SIZE : goal.returns-then-gather-lt-GATHER_SIZE
returns-then-gather-lt-GATHER_SIZE c =
    let a = c.args in
    plans a.m a.store.now a.output.now (unread a.gathered a.b.now a.choices a.gather.now c.if-gather-lt-GATHER_SIZE.true)
    (record { value = c.answered.ensures ∙ rw c.at_most-already.ensures; store_after = refl; gather_after = refl; output_after = refl })

pub returns-in-Err : goal.returns-in-Err
returns-in-Err c =
    let a = c.args in
    plans a.m a.store.now a.output.now
    (reads a.gathered a.b.now a.choices a.gather.now c.if-gather-lt-GATHER_SIZE.false
    c.read_record.ensures c.in-Err.is)
    (record { value = c.answered-in-Err.ensures ∙ rw c.at_most-already.ensures; store_after = refl; gather_after = refl; output_after = refl })

pub perform-requires : goal.perform-requires
perform-requires c =
    let l = own_short c.args.b.now (sym c.in-Ok.is ∙ c.read_record.ensures) c.part-own.ensures in
    omega arith

pub returns-in-Ok : goal.returns-in-Ok
returns-in-Ok c =
    let a = c.args in
    plans a.m a.store.now a.output.now
    (reads a.gathered a.b.now a.choices a.gather.now c.if-gather-lt-GATHER_SIZE.false
    c.read_record.ensures
    c.in-Ok.is)
    (rw (
      ← c.at_most-already.ensures,
      ← c.part-own.ensures,
    ) c.perform.ensures)
