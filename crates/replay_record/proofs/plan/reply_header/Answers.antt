-- `replay_record::plan::reply_header` meets its contract: four octets are a header.
use Rattle.replay_record.proofs.ReplyRecord.{header_ok, header_read}
use Rattle.replay_record.proofs.plan.reply_header.Goals as goal

pub unwrap-requires : goal.unwrap-requires
unwrap-requires c = header_ok _ _ c.deserialize.ensures

pub returns : goal.returns
returns c = header_read _ _ c.deserialize.ensures c.unwrap.ensures
