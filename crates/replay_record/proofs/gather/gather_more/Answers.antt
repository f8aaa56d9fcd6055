-- `replay_record::gather::gather_more` meets its contract: refused past 4,096 bytes, and else put behind what was gathered.
use native.Mathlib.Omega.{arith}
use Rattle.replay_record.proofs.GatherMore.{gather_done, gather_refused}
use Rattle.laws.proofs.Clauses.{value_gather}
use Rattle.replay_record.proofs.gather.gather_more.Goals as goal

pub returns-then-already-own-gt-MOST_GATHERED : goal.returns-then-already-own-gt-MOST_GATHERED
returns-then-already-own-gt-MOST_GATHERED c = value_gather (gather_refused _ _ _ (omega arith))

pub returns : goal.returns
returns c = value_gather (gather_done _ _ _ (omega arith) (omega arith) c.put.ensures.buffer_after)
