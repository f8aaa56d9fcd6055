-- A line (document 01, "Replay"): record number, operation, refusal or 0, node sent to, bytes sent in hex (sequence, command), ends as
-- node:letter:delivered joined by commas; `-` for nothing.
use Rattle.std.specs.Prelude.{ℕ, min, ◌+◌, ◌≤◌, List, [], ◌∷◌, ◌++◌, ltb, leb, length, get_or, take, Result, Ok, Err}
use Rattle.laws.specs.Pick.{pick}
use Rattle.codec.specs.Bytes.{Bytes, placed}
use Rattle.codec.specs.Command.{command_bytes}
use Rattle.codec.specs.Refusals.{refusal_number}
use Rattle.codec.specs.Sequence.{sequence_bytes}
use Rattle.replay_line.specs.Text.{decimal, hex}
use Rattle.replay_line.specs.Types.{Answer, End, Ends, Reason, Refusal, SentTo}

abbrev pub newline : ℕ
newline = 10

abbrev pub space : ℕ
space = 32

abbrev pub comma : ℕ
comma = 44

abbrev pub colon : ℕ
colon = 58

-- `-` for nothing
abbrev pub nothing : Bytes
nothing = 45 ∷ []

-- Letters: C, X (Cut), O, S, P, T, U (BadSegment).
abbrev pub letter : Reason → ℕ
letter Reason.Complete = 67
letter Reason.Cut = 88
letter Reason.OpenRefused = 79
letter Reason.Sequence = 83
letter (Reason.PeerAborted code) = 80
letter Reason.Timeout = 84
letter Reason.BadSegment = 85

-- a byte has up to three digits, a record's number up to five, a delivered figure up to ten
abbrev pub byte_text : ℕ → Bytes
byte_text n = decimal 2 n

abbrev pub number_text : ℕ → Bytes
number_text n = decimal 4 n

abbrev pub figure_text : ℕ → Bytes
figure_text n = decimal 9 n

-- the operation, where the record has one
unfoldable pub operation_text : Bytes → Bytes
operation_text b = pick (ltb (length b) 32) nothing (byte_text (get_or b 0 0))

abbrev pub refusal_text : Answer → Bytes
refusal_text Answer.Nothing = byte_text 0
refusal_text (Answer.Sent s) = byte_text 0
refusal_text (Answer.Value part) = byte_text 0
refusal_text (Answer.Refused r) = byte_text (refusal_number r)

abbrev pub node_text : Answer → Bytes
node_text Answer.Nothing = nothing
node_text (Answer.Sent s) = byte_text s.node
node_text (Answer.Value part) = nothing
node_text (Answer.Refused r) = nothing

-- the payload is at the start of the output, as long as the segment size says, at most 1,452 bytes
abbrev pub sent_payload : SentTo → Bytes → Bytes
sent_payload s output = take (min s.command.header.segment_size 1452) output

abbrev pub sent_text : Answer → Bytes → Bytes
sent_text Answer.Nothing output = nothing
sent_text (Answer.Sent s) output =
    hex (sequence_bytes s.sequence) ++ hex (command_bytes s.command (sent_payload s output))
sent_text (Answer.Value part) output = nothing
sent_text (Answer.Refused r) output = nothing

unfoldable pub end_text : End → Bytes
end_text e = byte_text e.node ++ (colon ∷ letter e.reason ∷ colon ∷ []) ++ figure_text e.delivered

abbrev pub further_ends : List End → Bytes
further_ends [] = []
further_ends (e ∷ l) = (comma ∷ []) ++ end_text e ++ further_ends l

abbrev pub ends_text : List End → Bytes
ends_text [] = nothing
ends_text (e ∷ l) = end_text e ++ further_ends l

-- a column, and the space behind it
abbrev pub column : Bytes → Bytes
column text = text ++ (space ∷ [])

unfoldable pub record_text : ℕ → Bytes → Bytes
record_text number b = column (number_text number) ++ column (operation_text b)

unfoldable pub answer_text : Answer → Bytes → Bytes
answer_text answer output =
    column (refusal_text answer) ++ column (node_text answer) ++ column (sent_text answer output)

-- the line of a record by which these ends came
unfoldable pub line_with : ℕ → Bytes → Answer → List End → Bytes → Bytes
line_with number b answer ends output =
    record_text number b ++ answer_text answer output ++ ends_text ends ++ (newline ∷ [])

abbrev pub line_of : ℕ → Bytes → Answer → Ends → Bytes → Bytes
line_of number b answer ends output = line_with number b answer (take ends.count ends.list) output

-- A line has at most 8,211 bytes, that of a value of 4,096 bytes; where fewer are free from its place on it is refused, and nothing is written.
abbrev pub most_line : ℕ
most_line = 8211

abbrev pub Short : Result ℕ Refusal → Type 0
Short (Ok n) = n ≤ most_line
Short (Err r) = Unit {0}

unfoldable pub line_answer : Bytes → ℕ → Bytes → Result ℕ Refusal
line_answer out at line =
    pick (leb (at + most_line) (length out)) (Ok (length line)) (Err Refusal.BufferTooShort)

unfoldable pub line_buffer : Bytes → ℕ → Bytes → Bytes
line_buffer out at line = pick (leb (at + most_line) (length out)) (placed out at line) out
