-- `replay_record::record::read_record` meets its contract: each return is one case of `record_read`.
use native.Mathlib.Omega.{arith}
use mathlib.Core.Path.{ap, ◌∙◌}
use Rattle.std.specs.Prelude.{Err}
use Rattle.std.proofs.lemmas.Result.{err_from_is_err_and}
use Rattle.replay_record.proofs.ReadRecord.{bad_length, good_length, no_number, numbered_record, short_record}
use Rattle.replay_record.proofs.record.read_record.Goals as goal

pub returns-then-b-lt-RECORD_SIZE : goal.returns-then-b-lt-RECORD_SIZE
returns-then-b-lt-RECORD_SIZE c = short_record _ (omega arith)

pub returns-in_err-operation : goal.returns-in_err-operation
returns-in_err-operation c =
    let x = err_from_is_err_and c.from_residual.result c.from_residual.ensures.1 in
    x.1 ∙ ap Err x.2 ∙ no_number _ (omega arith) c.try_from.ensures c.in_err-operation.was

pub returns-then-b-gt-MOST_DATA : goal.returns-then-b-gt-MOST_DATA
returns-then-b-gt-MOST_DATA c =
    numbered_record _ (omega arith) c.try_from.ensures c.in_ok-operation.was (bad_length c.args.b.now _ (omega arith))

pub returns : goal.returns
returns c =
    numbered_record _ (omega arith) c.try_from.ensures c.in_ok-operation.was (good_length c.args.b.now _ (omega arith) c.record_at.ensures)
