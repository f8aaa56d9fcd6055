-- `SdoCommand::deserialize` meets its contract: each return is one case of `command_read`.
use native.Mathlib.Omega.{arith}
use Rattle.std.proofs.lemmas.Result.{err_from_is_err_and}
use Rattle.codec.proofs.ReadCases.{command_short, command_refused, command_decoded, payload_past, payload_whole}
use Rattle.codec.proofs.command.SdoCommand.deserialize.Goals as goal

pub returns-then-buffer-lt8 : goal.returns-then-buffer-lt8
returns-then-buffer-lt8 c = command_short _ (omega arith)

pub returns-in_err-command_id : goal.returns-in_err-command_id
returns-in_err-command_id c =
    let p = err_from_is_err_and c.from_residual.result c.from_residual.ensures.1 in
    rw (p.1, p.2) (command_refused _ (omega arith) c.try_from.ensures c.in_err-command_id.was)

pub returns-then-buffer-start : goal.returns-then-buffer-start
returns-then-buffer-start c =
    command_decoded _ (omega arith) c.try_from.ensures _ _ c.in_ok-command_id.was c.header_at-header.ensures
    (payload_past _ _ _ c.head_len-start.ensures.0 (omega arith))

pub returns-then-buffer-start-2 : goal.returns-then-buffer-start-2
returns-then-buffer-start-2 c =
    command_decoded _ (omega arith) c.try_from.ensures _ _ c.in_ok-command_id.was c.header_at-header.ensures
    (payload_past _ _ _ c.head_len-start.ensures.0 (omega arith))

pub returns : goal.returns
returns c =
    command_decoded _ (omega arith) c.try_from.ensures _ _ c.in_ok-command_id.was c.header_at-header.ensures
    (payload_whole _ _ _ c.head_len-start.ensures.0 _ c.data_size_at-data_size.ensures (omega arith))
