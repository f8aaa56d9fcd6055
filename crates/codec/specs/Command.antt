-- The command (document 01, "Bytes"): 0, transaction, flags, command number, segment size (2 bytes, low first), 0, 0; after Initiate a
-- 4-byte data size; payload.
use Rattle.std.specs.Prelude.{ℕ, ◌+◌, ◌*◌, ◌/◌, ◌%◌, ◌≡◌, Bool, true, false, List, [], ◌∷◌, ◌++◌, ◌⊎◌, ltb, eqb, length, get_or, Option, Some, None, Result, Ok, Err}
use Rattle.codec.specs.declared.command.FoundCommand.{FoundCommand}
use Rattle.laws.specs.Pick.{pick, among}
use Rattle.codec.specs.Bytes.{Bytes, le16, le32, le16_at, le32_at}
use Rattle.codec.specs.declared.command.CommandId.{CommandId}
use Rattle.codec.specs.declared.command.CommandLayerHeader.{CommandLayerHeader}
use Rattle.codec.specs.declared.command.SdoCommand.{SdoCommand}
use Rattle.codec.specs.declared.command.Segmentation.{Segmentation}
use Rattle.codec.specs.declared.refusal.Refusal.{Refusal}

-- Command numbers: 0 to 6, 0x20, 0x21, 0x31, 0x32, 0x40, 0x70.
abbrev pub command_number : CommandId → ℕ
command_number CommandId.Nil = 0x00
command_number CommandId.WriteByIndex = 0x01
command_number CommandId.ReadByIndex = 0x02
command_number CommandId.WriteAllByIndex = 0x03
command_number CommandId.ReadAllByIndex = 0x04
command_number CommandId.WriteByName = 0x05
command_number CommandId.ReadByName = 0x06
command_number CommandId.FileWrite = 0x20
command_number CommandId.FileRead = 0x21
command_number CommandId.WriteMultipleParamByIndex = 0x31
command_number CommandId.ReadMultipleParamByIndex = 0x32
command_number CommandId.Abort = 0x40
command_number CommandId.MaxSegmentSize = 0x70

-- the thirteen commands in the order of their numbers, and the table of these
abbrev pub commands : List CommandId
commands =
    CommandId.Nil
    ∷ CommandId.WriteByIndex
    ∷ CommandId.ReadByIndex
    ∷ CommandId.WriteAllByIndex
    ∷ CommandId.ReadAllByIndex
    ∷ CommandId.WriteByName
    ∷ CommandId.ReadByName
    ∷ CommandId.FileWrite
    ∷ CommandId.FileRead
    ∷ CommandId.WriteMultipleParamByIndex
    ∷ CommandId.ReadMultipleParamByIndex
    ∷ CommandId.Abort
    ∷ CommandId.MaxSegmentSize
    ∷ []

abbrev pub command_numbers : List ℕ
command_numbers = 0x00 ∷ 0x01 ∷ 0x02 ∷ 0x03 ∷ 0x04 ∷ 0x05 ∷ 0x06 ∷ 0x20 ∷ 0x21 ∷ 0x31 ∷ 0x32 ∷ 0x40 ∷ 0x70 ∷ []

-- a number stands in a table
abbrev pub In : ℕ → List ℕ → Type 0
In n [] = ⊥
In n (x ∷ table) = (x ≡ n) ⊎ In n table

-- the listing: places 0 to 12 give their number, others none
unfoldable pub command_at : ℕ → Option ℕ
command_at place = pick (ltb place 13) (Some (get_or command_numbers place 0)) None

-- the command of a list that has a number
abbrev pub command_among : ℕ → List CommandId → Option CommandId
command_among n [] = None
command_among n (id ∷ rest) = pick (eqb (command_number id) n) (Some id) (command_among n rest)

unfoldable pub command_of : ℕ → Option CommandId
command_of n = command_among n commands

-- The table's membership rule: a number is decoded exactly when it stands in the table, and then as the command whose number it is.
abbrev pub Named : ℕ → List ℕ → Option CommandId → Type 0
Named n table (Some id) = In n table × (command_number id ≡ n)
Named n table None = In n table → ⊥

-- Segmentation: Expedited 0, Initiate 1, Segment 2, Complete 3.
abbrev pub segmentation_number : Segmentation → ℕ
segmentation_number Segmentation.Expedited = 0
segmentation_number Segmentation.Initiate = 1
segmentation_number Segmentation.Segment = 2
segmentation_number Segmentation.Complete = 3

abbrev pub segmentation_of : ℕ → Segmentation
segmentation_of n = among n Segmentation.Expedited Segmentation.Initiate Segmentation.Segment Segmentation.Complete

-- Flags: response 0x10, abort 0x20, segmentation × 64.
abbrev pub flag_bit : Bool → ℕ → ℕ
flag_bit true bit = bit
flag_bit false bit = 0

abbrev pub flags_of : CommandLayerHeader → ℕ
flags_of h = flag_bit h.is_response 0x10 + flag_bit h.is_aborted 0x20 + segmentation_number h.segmentation * 64

abbrev pub is_response : ℕ → Bool
is_response flags = eqb (flags / 0x10 % 2) 1

abbrev pub is_aborted : ℕ → Bool
is_aborted flags = eqb (flags / 0x20 % 2) 1

-- the header in the first eight bytes, for a command that was decoded
abbrev pub header_at : Bytes → CommandId → CommandLayerHeader
header_at b id =
    record {
      transaction_id = get_or b 1 0;
      is_response = is_response (get_or b 2 0);
      is_aborted = is_aborted (get_or b 2 0);
      segmentation = segmentation_of (get_or b 2 0 / 64);
      command_id = id;
      segment_size = le16_at b 4;
    }

-- the bytes before the payload, and the data size among them
abbrev pub head_length : Segmentation → ℕ
head_length Segmentation.Expedited = 8
head_length Segmentation.Initiate = 12
head_length Segmentation.Segment = 8
head_length Segmentation.Complete = 8

abbrev pub data_size_at : Bytes → Segmentation → Option ℕ
data_size_at b Segmentation.Expedited = None
data_size_at b Segmentation.Initiate = Some (le32_at b 8)
data_size_at b Segmentation.Segment = None
data_size_at b Segmentation.Complete = None

-- Reading checks: 8 bytes, command number, 12 bytes if Initiate, payload. Reserved bits and trailing bytes are ignored.
abbrev pub found : SdoCommand → ℕ → ℕ → Result FoundCommand Refusal
found c start len = Ok (record { command = c; start = start; len = len })

abbrev pub too_short : Result FoundCommand Refusal
too_short = Err Refusal.BufferTooShort

unfoldable pub read_payload : Bytes → CommandLayerHeader → Result FoundCommand Refusal
read_payload b h =
    pick (ltb (length b) (head_length h.segmentation)) too_short (
    pick (ltb (length b) (head_length h.segmentation + h.segment_size)) too_short
    (found
    (record { header = h; data_size = data_size_at b h.segmentation })
    (head_length h.segmentation)
    h.segment_size))

abbrev pub read_decoded : Bytes → Option CommandId → Result FoundCommand Refusal
read_decoded b (Some id) = read_payload b (header_at b id)
read_decoded b None = Err Refusal.InvalidEnumValue

unfoldable pub command_read : Bytes → Result FoundCommand Refusal
command_read b = pick (ltb (length b) 8) too_short (read_decoded b (command_of (get_or b 3 0)))

-- Writing puts the segment size as given and an absent data size as 0.
abbrev pub fixed_head : CommandLayerHeader → Bytes
fixed_head h =
    0 ∷ h.transaction_id ∷ flags_of h ∷ command_number h.command_id ∷ (le16 h.segment_size ++ (0 ∷ 0 ∷ []))

abbrev pub size_octets : Option ℕ → Bytes
size_octets (Some n) = le32 n
size_octets None = 0 ∷ 0 ∷ 0 ∷ 0 ∷ []

abbrev pub after_head : Segmentation → Option ℕ → Bytes
after_head Segmentation.Expedited d = []
after_head Segmentation.Initiate d = size_octets d
after_head Segmentation.Segment d = []
after_head Segmentation.Complete d = []

unfoldable pub command_head : SdoCommand → Bytes
command_head c = fixed_head c.header ++ after_head c.header.segmentation c.data_size

unfoldable pub command_bytes : SdoCommand → Bytes → Bytes
command_bytes c payload = command_head c ++ payload

-- A command is well formed when segment size equals payload length and a data size is present exactly with Initiate.
abbrev pub SizedAs : Segmentation → Option ℕ → Type 0
SizedAs Segmentation.Initiate (Some n) = Unit
SizedAs Segmentation.Initiate None = ⊥
SizedAs Segmentation.Expedited (Some n) = ⊥
SizedAs Segmentation.Expedited None = Unit
SizedAs Segmentation.Segment (Some n) = ⊥
SizedAs Segmentation.Segment None = Unit
SizedAs Segmentation.Complete (Some n) = ⊥
SizedAs Segmentation.Complete None = Unit

pub record WellFormed (c : SdoCommand) (payload : Bytes) : Type 0 where
  pub segment : c.header.segment_size ≡ length payload
  pub sized : SizedAs c.header.segmentation c.data_size
