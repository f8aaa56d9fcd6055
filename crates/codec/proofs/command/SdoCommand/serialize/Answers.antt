-- `SdoCommand::serialize` meets its contract: refused before a byte is written, or the head and the payload behind it.
use native.Mathlib.Omega.{arith}
use Rattle.laws.proofs.Clauses.{value_buffer}
use Rattle.codec.proofs.WrittenBytes.{head_length_lem, bytes_length, write_refused, command_written}
use Rattle.codec.proofs.command.SdoCommand.serialize.Goals as goal

pub returns-then-buffer-start : goal.returns-then-buffer-start
returns-then-buffer-start c =
    let n = bytes_length c.args.self c.args.payload.now in
    let h = c.head_len-start.ensures in
    value_buffer (write_refused _ _ (omega arith))

pub put_head-requires : goal.put_head-requires
put_head-requires c =
    let n = head_length_lem c.args.self in
    let h = c.head_len-start.ensures in
    omega arith

pub returns : goal.returns
returns c =
    value_buffer (command_written _ _ _ _ _ _ c.head_len-start.ensures.0 (omega arith) c.put_head.ensures c.put_bytes.ensures)
