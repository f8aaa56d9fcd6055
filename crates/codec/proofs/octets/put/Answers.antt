-- `codec::octets::put` meets its contract: refused before a byte is put, or put whole.
use native.Mathlib.Omega.{arith}
use Rattle.laws.proofs.Clauses.{value_buffer}
use Rattle.codec.proofs.WrittenBytes.{put_refused, put_done}
use Rattle.codec.proofs.octets.put.Goals as goal

pub returns-then-buffer-at : goal.returns-then-buffer-at
returns-then-buffer-at c = value_buffer (put_refused _ _ _ (omega arith))

pub returns : goal.returns
returns c = value_buffer (put_done _ _ _ _ (omega arith) c.put_bytes.ensures)
