-- The payload of a command that goes out (document 01): a read's is index, sub-index, 0; a part's are the bytes of its transfer from a
-- place on, as many as the segment size says; an abort's is its code.
use Rattle.std.specs.Prelude.{ℕ, ◌-◌, [], take, drop}
use Rattle.codec.specs.Bytes.{Bytes, le32}
use Rattle.codec.specs.Dcf.{sent_as}
use Rattle.con_rec.specs.Parts.{wire, total, part_length}
use Rattle.con_rec.specs.Types.{Message, Outgoing, Transfer}

-- so many bytes of a transfer, from a place on
abbrev pub bytes_from : Bytes → Transfer → ℕ → ℕ → Bytes
bytes_from room t from n = take n (drop from (wire room t))

abbrev pub payload_from : Bytes → Message → Bytes
payload_from room Message.Opening = []
payload_from room (Message.Read q) = sent_as q.index q.sub_index []
payload_from room Message.Next = []
payload_from room (Message.First t) = bytes_from room t 0 (part_length (total t))
payload_from room (Message.Later t from) = bytes_from room t from (part_length (total t - from))
payload_from room (Message.Abort code) = le32 code

abbrev pub payload_of : Bytes → Outgoing → Bytes
payload_of room o = payload_from room o.message
