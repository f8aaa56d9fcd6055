-- The codec's readers and writers go by their checks, so each refusal is given exactly when document 01's column says.
use Rattle.std.specs.Prelude.{Option, Some, None, Ok, Err}
use Prim.Native.Nat.{ℕ, ◌+◌, ◌%◌, ◌<◌, ◌≤◌}
use native.Mathlib.Omega.{arith}
use mathlib.Core.Path.{◌≡◌, refl}
use mathlib.Core.List.{List, [], ◌∷◌}
use mathlib.Core.Logic.{inl, inr}
use lib.Dec.{eqb, leb, ltb}
use lib.ListN.{length, get_or}
use borrow.Author.Tests.{eqb-true, eqb-false, ltb-true, ltb-false}
use Rattle.laws.proofs.Checks.{Goes, Otherwise, goes_exactly, ok_otherwise, refuses_below, refuses_beyond, refuses_if, refuses_unless}
use Rattle.laws.specs.Checks.{Check, check}
use Rattle.laws.specs.Pick.{pick}
use Rattle.codec.specs.Bytes.{Bytes, le16_at}
use Rattle.codec.specs.Causes.{
  CodecRefuses,
  command_read_checks,
  command_write_checks,
  dcf_checks,
  index_checks,
  kind_at,
  multiple_checks,
  put_checks,
  sequence_read_checks,
  sequence_write_checks,
}
use Rattle.codec.specs.Command.{
  In,
  Named,
  command_bytes,
  command_numbers,
  command_of,
  command_read,
  head_length,
  header_at,
  read_decoded,
  read_payload,
}
use Rattle.codec.specs.Dcf.{dcf_count}
use Rattle.codec.specs.Request.{read_by_index, read_multiple_param, write_all_by_index, write_by_index}
use Rattle.codec.specs.Sequence.{sequence_bytes, sequence_read}
use Rattle.codec.specs.Writing.{put_answer, written}
use Rattle.codec.specs.declared.command.CommandId.{CommandId}
use Rattle.codec.specs.declared.command.SdoCommand.{SdoCommand}
use Rattle.codec.specs.declared.command.Segmentation.{Segmentation}
use Rattle.codec.specs.declared.refusal.Refusal.{Refusal}
use Rattle.codec.specs.declared.sequence.SequenceLayerHeader.{SequenceLayerHeader}
use Rattle.codec.proofs.Commands.{membership}
use Rattle.codec.proofs.WrittenBytes.{bytes_length}

-- a reader that makes one check, that the bytes are not too short
short : {T : Type 0} {why : Refusal} (x : T) (n m : ℕ) → Goes (check why (n < m) ∷ []) (pick (ltb n m) (Err why) (Ok x))
short x n m = refuses_below Err (Otherwise Err) [] _ n m (λ e. ok_otherwise x)

pub sequence_read_goes : (b : Bytes) → Goes (sequence_read_checks b) (sequence_read b)
unfolding sequence_read
sequence_read_goes b = short _ (length b) 4

pub read_by_index_goes : (p : Bytes) → Goes (index_checks p) (read_by_index p)
read_by_index_goes p = short _ (length p) 4

pub write_by_index_goes : (p : Bytes) → Goes (index_checks p) (write_by_index p)
write_by_index_goes p = short _ (length p) 4

pub write_all_by_index_goes : (p : Bytes) → Goes (index_checks p) (write_all_by_index p)
write_all_by_index_goes p = short _ (length p) 4

pub dcf_count_goes : (b : Bytes) → Goes (dcf_checks b) (dcf_count b)
unfolding dcf_count
dcf_count_goes b = short _ (length b) 4

pub read_multiple_param_goes : (p : Bytes) → Goes (multiple_checks p) (read_multiple_param p)
read_multiple_param_goes p =
    refuses_unless Err (Otherwise Err) [] _ (eqb (length p % 4) 0) (eqb-false _ _) (λ e z. z (eqb-true _ _ e)) (λ e. ok_otherwise _)

-- a write of bytes, by their number
fits : (n m k : ℕ) → Goes (check Refusal.BufferTooShort (m < n) ∷ []) (pick (leb n m) (Ok k) (Err Refusal.BufferTooShort))
fits n m k = refuses_beyond Err (Otherwise Err) [] _ n m (λ e. ok_otherwise k)

pub sequence_write_goes : (h : SequenceLayerHeader) (buffer : Bytes) → Goes (sequence_write_checks buffer) (written (sequence_bytes h) buffer)
unfolding written
sequence_write_goes h buffer = fits 4 (length buffer) 4

pub command_write_goes : (c : SdoCommand) (payload buffer : Bytes)
    → Goes (command_write_checks c.header.segmentation payload buffer) (written (command_bytes c payload) buffer)
unfolding written
command_write_goes c payload buffer =
    rw (← bytes_length c payload) (fits (length (command_bytes c payload)) (length buffer) (length (command_bytes c payload)))

put_goes : (buffer : Bytes) (at : ℕ) (src : Bytes) → Goes (put_checks buffer at src) (put_answer buffer at src)
unfolding put_answer
put_goes buffer at src = fits (at + length src) (length buffer) (length src)

-- a command: only an Initiate's head is past 8 bytes
twelve : (s : Segmentation) (n : ℕ) → 8 ≤ n → n < head_length s → (s ≡ Segmentation.Initiate) × (n < 12)
twelve Segmentation.Expedited n h k = absurd (omega arith)
twelve Segmentation.Initiate n h k = (refl, k)
twelve Segmentation.Segment n h k = absurd (omega arith)
twelve Segmentation.Complete n h k = absurd (omega arith)

not_twelve : (s : Segmentation) (n : ℕ) → head_length s ≤ n → s ≡ Segmentation.Initiate → n < 12 → ⊥
not_twelve s n h e k = let l : 12 ≤ n = rw e at h in omega arith

module _ (b : Bytes) where
  -- the checks that are left after each
  abbrev segment_check : List (Check Refusal)
  segment_check = check Refusal.BufferTooShort (length b < head_length (kind_at b) + le16_at b 4) ∷ []

  abbrev payload_checks : List (Check Refusal)
  payload_checks = check Refusal.BufferTooShort ((kind_at b ≡ Segmentation.Initiate) × (length b < 12)) ∷ segment_check

  abbrev decoded_checks : List (Check Refusal)
  decoded_checks = check Refusal.InvalidEnumValue (In (get_or b 3 0) command_numbers → ⊥) ∷ payload_checks

  payload_goes : (id : CommandId) → 8 ≤ length b → Goes payload_checks (read_payload b (header_at b id))
  unfolding read_payload
  payload_goes id head =
      refuses_if Err (Otherwise Err) segment_check _ (ltb (length b) (head_length (kind_at b)))
      (λ e. twelve (kind_at b) (length b) head (ltb-true _ _ e))
      (λ e z. not_twelve (kind_at b) (length b) (ltb-false _ _ e) z.0 z.1)
      (λ e. short _ (length b) (head_length (kind_at b) + le16_at b 4))

  decoded_goes : (d : Option CommandId) → Named (get_or b 3 0) command_numbers d → 8 ≤ length b
      → Goes decoded_checks (read_decoded b d)
  decoded_goes (Some id) h head = inr (λ z. z h.0, payload_goes id head)
  decoded_goes None h head = inl (h, refl)

  pub command_read_goes : Goes (command_read_checks b) (command_read b)
  unfolding command_read
  command_read_goes =
      refuses_below Err (Otherwise Err) decoded_checks _ (length b) 8
      (decoded_goes (command_of (get_or b 3 0)) (membership (get_or b 3 0)))

pub codec_refuses : CodecRefuses
codec_refuses =
    record {
      sequence_read_lem = λ b. goes_exactly (sequence_read_checks b) _ (sequence_read_goes b);
      sequence_write = λ h buffer. goes_exactly (sequence_write_checks buffer) _ (sequence_write_goes h buffer);
      command_read_lem = λ b. goes_exactly (command_read_checks b) _ (command_read_goes b);
      command_write = λ c payload buffer.
          goes_exactly (command_write_checks c.header.segmentation payload buffer) _ (command_write_goes c payload buffer);
      put = λ buffer at src. goes_exactly (put_checks buffer at src) _ (put_goes buffer at src);
      read_by_index_lem = λ p. goes_exactly (index_checks p) _ (read_by_index_goes p);
      write_by_index_lem = λ p. goes_exactly (index_checks p) _ (write_by_index_goes p);
      write_all_by_index_lem = λ p. goes_exactly (index_checks p) _ (write_all_by_index_goes p);
      read_multiple_param_lem = λ p. goes_exactly (multiple_checks p) _ (read_multiple_param_goes p);
      dcf_count_lem = λ b. goes_exactly (dcf_checks b) _ (dcf_count_goes b);
    }
