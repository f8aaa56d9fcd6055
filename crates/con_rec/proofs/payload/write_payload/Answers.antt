-- `con_rec::payload::write_payload` meets its contract: a read and an abort write four octets.
use Rattle.con_rec.proofs.PayloadWritten.{octets_written, found_written}
use Rattle.laws.proofs.Clauses.{value_output}
use Rattle.con_rec.proofs.payload.write_payload.Goals as goal

pub returns-in-Read : goal.returns-in-Read
returns-in-Read c =
    let a = c.args in
    value_output (found_written a.output.now a.room.now c.in-Read.is
    (octets_written a.output.now _ _ c.head_octets-octets.ensures c.put.ensures.value c.put.ensures.buffer_after))

pub returns-in-Abort : goal.returns-in-Abort
returns-in-Abort c =
    let a = c.args in
    value_output (found_written a.output.now a.room.now c.in-Abort.is
    (octets_written a.output.now _ _ c.octets32-octets.ensures c.put-in-Abort.ensures.value c.put-in-Abort.ensures.buffer_after))
