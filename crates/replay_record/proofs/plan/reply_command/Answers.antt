-- `replay_record::plan::reply_command` meets its contract: twelve bytes that begin with a Nil command are one.
use Rattle.replay_record.proofs.ReplyRecord.{command_ok, command_read_lem}
use Rattle.replay_record.proofs.plan.reply_command.Goals as goal

pub unwrap-found-requires : goal.unwrap-found-requires
unwrap-found-requires c = command_ok _ c.deserialize.ensures

pub returns : goal.returns
returns c = command_read_lem _ c.deserialize.ensures c.unwrap-found.ensures
