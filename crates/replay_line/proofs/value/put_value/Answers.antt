-- `replay_line::value::put_value` meets its contract: the value of an answer that has one, and no text for any other.
use native.Mathlib.Omega.{arith}
use Rattle.replay_line.proofs.PutText.{put_as, put_none, put_within}
use Rattle.replay_line.proofs.ValueLines.{few, no_value}
use Rattle.replay_line.proofs.value.put_value.Goals as goal

pub returns-in_default : goal.returns-in_default
returns-in_default c = rw (c.in_default.is-0, c.in_default.is-1) (put_within 8211 (omega arith) (put_none _ (omega arith)))

pub returns-in_default-2 : goal.returns-in_default-2
returns-in_default-2 c = let a = c.args in put_as (no_value a.answer a.number a.b.now a.object a.store.now c.in_default.not-Value-0) (put_within 8211 (omega arith) (put_none _ (omega arith)))

pub put_line-requires-clause-bytes_len_bound : goal.put_line-requires-clause-bytes_len_bound
put_line-requires-clause-bytes_len_bound c = few _ c.clip.ensures
