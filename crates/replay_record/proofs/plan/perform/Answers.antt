-- `replay_record::plan::perform` meets its contract: each arm is one operation.
use native.Mathlib.Omega.{arith}
use Prim.Native.Nat.{◌+◌, ◌≤◌}
use lib.ListN.{length}
use mathlib.Core.Path.{refl, sym, ap, ◌∙◌}
use Rattle.codec.proofs.WrittenBytes.{put_fits}
use Rattle.replay_record.proofs.GatherBuffer.{used_part}
use Rattle.manager.proofs.PlanCalls.{turn_keeps}
use Rattle.manager.proofs.StartCalls.{read_keeps}
use Rattle.manager.specs.Plan.{plan_of}
use Rattle.replay_record.specs.Request.{operation_asks}
use Rattle.replay_record.proofs.RecordPlan.{plans, use_plan}
use Rattle.replay_record.proofs.plan.perform.Goals as goal

pub returns-in-Uses : goal.returns-in-Uses
returns-in-Uses c =
    let a = c.args in
    let k = c.requires in
    let h : a.already + length a.own.now ≤ length a.gather.now = omega arith in
    let x = c.put.ensures.buffer_after in
    let p = used_part a.gather.now a.already a.own.now h x c.part.ensures in
    let u = use_plan c.in-Uses.u a.mode a.r a.m a.when c.part.result.now a.store.now a.output.now in
    plans a.m a.store.now a.output.now
    (ap (λ x. operation_asks x a.mode a.r a.already a.when a.own.now a.gather.now) (sym c.in-Uses.is))
    (rw (← p, ← u.0, ← u.1.0) (record {
      value = rw c.plan_use.ensures.value;
      store_after = c.plan_use.ensures.store_after;
      gather_after = x ∙ put_fits _ _ _ h;
      output_after = u.1.1;
    }))

pub returns-in-Read : goal.returns-in-Read
unfolding plan_of
returns-in-Read c =
    let a = c.args in
    plans a.m a.store.now a.output.now
    (ap (λ x. operation_asks x a.mode a.r a.already a.when a.own.now a.gather.now) (sym c.in-Read.is))
    (record {
      value = rw c.read_change.ensures;
      store_after = read_keeps _ _ _ _ _ _ _;
      gather_after = refl;
      output_after = refl;
    })

pub returns-in-Turns : goal.returns-in-Turns
unfolding plan_of
returns-in-Turns c =
    let a = c.args in
    plans a.m a.store.now a.output.now
    (ap (λ x. operation_asks x a.mode a.r a.already a.when a.own.now a.gather.now) (sym c.in-Turns.is))
    (record {
      value = rw c.plan_turn.ensures.value;
      store_after = turn_keeps _ _ _ _ _;
      gather_after = refl;
      output_after = c.plan_turn.ensures.output_after;
    })
