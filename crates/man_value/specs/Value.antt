-- Values (document 02, CR 1): which part of the store holds what a read brought. A part is handed out of the store that is lent; one that does not lie
-- within it comes back empty. That a reply that ends a read Complete answers its part is in the crate manager.
use Rattle.std.specs.Prelude.{ℕ, Bool, true, false, List, get_or, Option, Some, None}
use Rattle.codec.specs.declared.request.ReadByIndexRequest.{ReadByIndexRequest}
use Rattle.codec.specs.Bytes.{Bytes, part_at}
use Rattle.con_rec.specs.declared.Reason.{Reason}
use Rattle.con_rec.specs.declared.SdoClientConnection.{SdoClientConnection}
use Rattle.man_table.specs.Table.{blank, find_in, live, room_start}
use Rattle.man_table.specs.declared.types.SdoClientManager.{SdoClientManager}
use Rattle.man_value.specs.declared.StorePart.{StorePart}

-- what an upload has brought lies at the start of its room
abbrev pub uploaded_part : SdoClientConnection → StorePart
uploaded_part c = record { start = room_start c; length = c.job.uploaded }

-- whether a job ended Complete
abbrev pub is_complete : Reason → Bool
is_complete Reason.Complete = true
is_complete Reason.Cut = false
is_complete Reason.OpenRefused = false
is_complete Reason.Sequence = false
is_complete (Reason.PeerAborted code) = false
is_complete Reason.Timeout = false
is_complete Reason.BadSegment = false

-- the object that a node's job reads
abbrev pub object_at : Option ℕ → List SdoClientConnection → Option ReadByIndexRequest
object_at (Some k) l = (get_or l k blank).job.pending_read
object_at None l = None

abbrev pub object_of : SdoClientManager → ℕ → Option ReadByIndexRequest
object_of m node = object_at (find_in node (live m)) (live m)

-- a part, handed out
abbrev pub value_in : Bytes → StorePart → Bytes
value_in store part = part_at store part.start part.length
