-- Values (document 02, CR 1): a reply that ends a read Complete says which part of the store holds the data. The part, and how it is handed out, are in
-- the crate man_value.
use Rattle.std.specs.Prelude.{Option, Some, None}
use Rattle.codec.specs.declared.request.ReadByIndexRequest.{ReadByIndexRequest}
use Rattle.con_rec.specs.declared.Reason.{Reason}
use Rattle.laws.specs.Pick.{pick}
use Rattle.man_value.specs.Value.{is_complete, uploaded_part}
use Rattle.manager.specs.Types.{Answer, SdoClientConnection}

-- a read has a value, a write or a DCF none
abbrev pub value_for : Option ReadByIndexRequest → SdoClientConnection → Answer
value_for (Some q) c = Answer.Value (uploaded_part c)
value_for None c = Answer.Nothing

-- a job that runs, and one that ended
abbrev pub value_by : Option Reason → SdoClientConnection → Answer
value_by None c = Answer.Nothing
value_by (Some why) c = pick (is_complete why) (value_for c.job.pending_read c) Answer.Nothing

-- what a reply answers, by the connection after it
abbrev pub value_of : SdoClientConnection → Answer
value_of c = value_by c.outcome c
