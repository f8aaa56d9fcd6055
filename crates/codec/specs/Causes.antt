-- Each refusal of the codec's readers and writers, given exactly when document 01's column says ("Numbers that refuse"), in the order of the checks.
-- Of the codec's other functions only the decoder of a command number refuses, with 2 (`Commands.membership`).
use Rattle.std.specs.Prelude.{ℕ, ◌+◌, ◌/◌, ◌%◌, ◌<◌, ◌≡◌, List, [], ◌∷◌, length, get_or, Err}
use Rattle.laws.specs.Checks.{Check, Exactly, check}
use Rattle.codec.specs.Bytes.{Bytes, le16_at}
use Rattle.codec.specs.Command.{In, command_bytes, command_numbers, command_read, head_length, segmentation_of}
use Rattle.codec.specs.Dcf.{dcf_count}
use Rattle.codec.specs.Request.{read_by_index, read_multiple_param, write_all_by_index, write_by_index}
use Rattle.codec.specs.Sequence.{sequence_bytes, sequence_read}
use Rattle.codec.specs.Writing.{put_answer, written}
use Rattle.codec.specs.declared.command.SdoCommand.{SdoCommand}
use Rattle.codec.specs.declared.command.Segmentation.{Segmentation}
use Rattle.codec.specs.declared.refusal.Refusal.{Refusal}
use Rattle.codec.specs.declared.sequence.SequenceLayerHeader.{SequenceLayerHeader}

-- ---- 1: codec bytes or room too short. 2: unknown command number.
abbrev pub sequence_read_checks : Bytes → List (Check Refusal)
sequence_read_checks b = check Refusal.BufferTooShort (length b < 4) ∷ []

abbrev pub sequence_write_checks : Bytes → List (Check Refusal)
sequence_write_checks buffer = check Refusal.BufferTooShort (length buffer < 4) ∷ []

-- the segmentation that the flags carry
abbrev pub kind_at : Bytes → Segmentation
kind_at b = segmentation_of (get_or b 2 0 / 64)

-- Reading checks: 8 bytes, command number, 12 bytes if Initiate, payload.
abbrev pub command_read_checks : Bytes → List (Check Refusal)
command_read_checks b =
    check Refusal.BufferTooShort (length b < 8)
    ∷ check Refusal.InvalidEnumValue (In (get_or b 3 0) command_numbers → ⊥)
    ∷ check Refusal.BufferTooShort ((kind_at b ≡ Segmentation.Initiate) × (length b < 12))
    ∷ check Refusal.BufferTooShort (length b < head_length (kind_at b) + le16_at b 4)
    ∷ []

-- a command is written as its head and its payload
abbrev pub command_write_checks : Segmentation → Bytes → Bytes → List (Check Refusal)
command_write_checks kind payload buffer = check Refusal.BufferTooShort (length buffer < head_length kind + length payload) ∷ []

-- bytes put into a buffer from a place on
abbrev pub put_checks : Bytes → ℕ → Bytes → List (Check Refusal)
put_checks buffer at src = check Refusal.BufferTooShort (length buffer < at + length src) ∷ []

-- ---- 3: index request under 4 bytes; multiple read not a multiple of 4
abbrev pub index_checks : Bytes → List (Check Refusal)
index_checks p = check Refusal.SdoInvalidCommandPayload (length p < 4) ∷ []

abbrev pub multiple_checks : Bytes → List (Check Refusal)
multiple_checks p = check Refusal.SdoInvalidCommandPayload (length p % 4 ≡ 0 → ⊥) ∷ []

-- ---- 5: DCF under 4 bytes
abbrev pub dcf_checks : Bytes → List (Check Refusal)
dcf_checks b = check Refusal.DcfTooShort (length b < 4) ∷ []

-- ---- given exactly when
pub record CodecRefuses : Type 0 where
  pub sequence_read_lem : (b : Bytes) → Exactly Err (sequence_read_checks b) (sequence_read b)
  pub sequence_write : (h : SequenceLayerHeader) (buffer : Bytes)
      → Exactly Err (sequence_write_checks buffer) (written (sequence_bytes h) buffer)
  pub command_read_lem : (b : Bytes) → Exactly Err (command_read_checks b) (command_read b)
  pub command_write : (c : SdoCommand) (payload buffer : Bytes)
      → Exactly Err (command_write_checks c.header.segmentation payload buffer) (written (command_bytes c payload) buffer)
  pub put : (buffer : Bytes) (at : ℕ) (src : Bytes) → Exactly Err (put_checks buffer at src) (put_answer buffer at src)
  pub read_by_index_lem : (p : Bytes) → Exactly Err (index_checks p) (read_by_index p)
  pub write_by_index_lem : (p : Bytes) → Exactly Err (index_checks p) (write_by_index p)
  pub write_all_by_index_lem : (p : Bytes) → Exactly Err (index_checks p) (write_all_by_index p)
  pub read_multiple_param_lem : (p : Bytes) → Exactly Err (multiple_checks p) (read_multiple_param p)
  pub dcf_count_lem : (b : Bytes) → Exactly Err (dcf_checks b) (dcf_count b)
