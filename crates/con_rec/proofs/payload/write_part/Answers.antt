-- `con_rec::payload::write_part` meets its contract: where they fit, both pieces are written.
use native.Mathlib.Omega.{arith}
use Rattle.con_rec.proofs.PayloadWritten.{part_written}
use Rattle.laws.proofs.Clauses.{value_output}
use Rattle.con_rec.proofs.payload.write_part.Goals as goal

pub returns : goal.returns
returns c =
    let a = c.args in
    value_output (part_written a.t a.room.now a.from a.n _ _ _ _ _ _ _
    c.head_octets-octets.ensures c.clip-head.ensures c.clip-own.ensures c.saturating_sub.ensures
    c.saturating_sub-2.ensures c.saturating_sub-3.ensures c.clip-rest.ensures
    _ _ _ (omega arith) c.put.auto.buffer c.put.ensures.buffer_after c.put-2.ensures.buffer_after)
