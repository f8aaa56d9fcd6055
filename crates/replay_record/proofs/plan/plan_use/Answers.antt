-- `replay_record::plan::plan_use` meets its contract: each arm is one of the library's calls.
use mathlib.Core.Path.{ap}
use Rattle.manager.specs.Plan.{plan_of}
use Rattle.replay_record.specs.Types.{Plan}
use Rattle.laws.proofs.Clauses.{value_store}
use Rattle.replay_record.proofs.plan.plan_use.Goals as goal

pub returns-in-Write : goal.returns-in-Write
unfolding plan_of
returns-in-Write c =
    value_store (rw c.in-Write.is (ap Plan.Change c.write_change.ensures.value, c.write_change.ensures.store_after))

pub returns-in-Dcf : goal.returns-in-Dcf
unfolding plan_of
returns-in-Dcf c =
    value_store (rw c.in-Dcf.is (ap Plan.Change c.load_change.ensures.value, c.load_change.ensures.store_after))

pub returns-in-Reply : goal.returns-in-Reply
unfolding plan_of
returns-in-Reply c =
    value_store (rw (
      c.in-Reply.is,
      ← c.reply_command-cmd.ensures,
      ← c.reply_header-seq.ensures,
    ) (ap Plan.Change c.reply_change.ensures.value, c.reply_change.ensures.store_after))
