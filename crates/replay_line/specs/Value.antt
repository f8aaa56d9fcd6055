-- A line of `values`, the bench tool for document 02's CR 1: record number, node, object as INDEX:SUB in hex, data in hex; `-` for none. A record has one
-- where it ends a read Complete, and else no text.
use Rattle.std.specs.Prelude.{ℕ, ◌/◌, ◌%◌, [], ◌∷◌, ◌++◌, get_or, take, Option, Some, None}
use Rattle.codec.specs.declared.request.ReadByIndexRequest.{ReadByIndexRequest}
use Rattle.codec.specs.Bytes.{Bytes}
use Rattle.man_table.specs.Table.{room_size}
use Rattle.man_value.specs.Value.{value_in}
use Rattle.replay_line.specs.Line.{byte_text, colon, column, newline, nothing, number_text}
use Rattle.replay_line.specs.Text.{hex}
use Rattle.replay_line.specs.Types.{Answer}

-- record number and node
unfoldable pub place_text : ℕ → ℕ → Bytes
place_text number node = column (number_text number) ++ column (byte_text node)

-- index and sub-index, four digits and two
unfoldable pub object_text : ℕ → ℕ → Bytes
object_text index sub = hex (index / 256 ∷ index % 256 ∷ []) ++ (colon ∷ []) ++ hex (sub ∷ [])

abbrev pub data_text : Bytes → Bytes
data_text [] = nothing
data_text (b ∷ more) = hex (b ∷ more)

unfoldable pub value_line : ℕ → ℕ → ℕ → ℕ → Bytes → Bytes
value_line number node index sub value = place_text number node ++ column (object_text index sub) ++ data_text value ++ (newline ∷ [])

-- the node that a record is for, its byte 1 (replay_record's Record); 0 where there is none
abbrev pub node_of : Bytes → ℕ
node_of b = get_or b 1 0

-- What a record's answer shows, where its node's job read an object: the bytes that the thin call hands out. No value has more than 4,096 (theorems'
-- `ValuesWithin`); no more are shown of any manager.
abbrev pub read_line : Option ReadByIndexRequest → ℕ → ℕ → Bytes → Bytes
read_line (Some q) number node value = value_line number node q.index q.sub_index (take room_size value)
read_line None number node value = []

abbrev pub value_text : ℕ → Bytes → Option ReadByIndexRequest → Answer → Bytes → Bytes
value_text number b object Answer.Nothing store = []
value_text number b object (Answer.Sent s) store = []
value_text number b object (Answer.Value part) store = read_line object number (node_of b) (value_in store part)
value_text number b object (Answer.Refused r) store = []
