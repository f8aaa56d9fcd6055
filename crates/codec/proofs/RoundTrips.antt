-- What was written is read back: a header with its numbers modulo 64, a command with the payload that its segment size says. So a
-- well-formed header or command is read back the same.
use Rattle.std.specs.Prelude.{Option, Some, None, Ok}
use Prim.Native.Nat.{ℕ, ◌+◌, ◌*◌, ◌/◌, ◌%◌, ◌<◌, ◌≤◌}
use native.Mathlib.Nat.{add_assoc, mod-eq_of_lt}
use native.Mathlib.Omega.{arith}
use mathlib.Core.Path.{◌≡◌, refl, sym, ap, ◌∙◌}
use mathlib.Core.Bool.{Bool, true, false}
use mathlib.Core.List.{◌++◌, append_assoc}
use lib.ListN.{length, length-append}
use lib.Seq.{take-append_seam, drop-append_seam}
use borrow.Author.Tests.{eq-eqb, ne_eqb}
use Rattle.laws.specs.Pick.{pick, among}
use Rattle.laws.proofs.Picks.{within, not_below}
use Rattle.codec.specs.Bytes.{Bytes, part_at}
use Rattle.codec.specs.Command as C
use Rattle.codec.specs.Command.{
  after_head,
  command_bytes,
  command_head,
  command_read,
  data_size_at,
  fixed_head,
  flag_bit,
  head_length,
  header_at,
  is_aborted,
  is_response,
  read_payload,
  segmentation_number,
  segmentation_of,
  found,
  too_short,
}
use Rattle.codec.specs.Sequence as S
use Rattle.codec.specs.Sequence.{
  receive_conn_number,
  receive_conn_state,
  send_conn_number,
  send_conn_state,
  sequence_bytes,
  sequence_read,
}
use Rattle.codec.specs.declared.command.CommandLayerHeader.{CommandLayerHeader}
use Rattle.codec.specs.declared.command.SdoCommand.{SdoCommand}
use Rattle.codec.specs.declared.command.Segmentation.{Segmentation}
use Rattle.codec.specs.declared.sequence.ReceiveConnState.{ReceiveConnState}
use Rattle.codec.specs.declared.sequence.SendConnState.{SendConnState}
use Rattle.codec.specs.declared.sequence.SequenceLayerHeader.{SequenceLayerHeader}
use Rattle.codec.proofs.Commands.{decoded_back}
use Rattle.codec.proofs.ReadCases.{payload_past, payload_whole}
use Rattle.codec.proofs.WrittenBytes.{head_length_lem, bytes_length}

-- ---- the sequence header

receive_state_back : (s : ReceiveConnState) → receive_conn_state (receive_conn_number s) ≡ s
unfolding pick among
receive_state_back ReceiveConnState.NoConnection = refl
receive_state_back ReceiveConnState.Initialization = refl
receive_state_back ReceiveConnState.ConnectionValid = refl
receive_state_back ReceiveConnState.ErrorResponse = refl

send_state_back : (s : SendConnState) → send_conn_state (send_conn_number s) ≡ s
unfolding pick among
send_state_back SendConnState.NoConnection = refl
send_state_back SendConnState.Initialization = refl
send_state_back SendConnState.ConnectionValid = refl
send_state_back SendConnState.ConnectionValidAckRequest = refl

pub receive_small : (s : ReceiveConnState) → receive_conn_number s < 4
receive_small ReceiveConnState.NoConnection = omega arith
receive_small ReceiveConnState.Initialization = omega arith
receive_small ReceiveConnState.ConnectionValid = omega arith
receive_small ReceiveConnState.ErrorResponse = omega arith

pub send_small : (s : SendConnState) → send_conn_number s < 4
send_small SendConnState.NoConnection = omega arith
send_small SendConnState.Initialization = omega arith
send_small SendConnState.ConnectionValid = omega arith
send_small SendConnState.ConnectionValidAckRequest = omega arith

number_back : (n k : ℕ) → k < 4 → (n % 64 * 4 + k) / 4 ≡ n % 64
number_back n k h = omega arith

state_back : (n k : ℕ) → k < 4 → (n % 64 * 4 + k) % 4 ≡ k
state_back n k h = omega arith

-- the header with its numbers modulo 64
abbrev pub modulo64 : SequenceLayerHeader → SequenceLayerHeader
modulo64 h =
    record {
      receive_sequence_number = h.receive_sequence_number % 64;
      receive_con = h.receive_con;
      send_sequence_number = h.send_sequence_number % 64;
      send_con = h.send_con;
    }

pub sequence_back : (h : SequenceLayerHeader) (rest : Bytes) → sequence_read (sequence_bytes h ++ rest) ≡ Ok (modulo64 h)
unfolding sequence_read
sequence_back h rest =
    let r = receive_small h.receive_con in
    let s = send_small h.send_con in
    sym
    (not_below _ _ (length (sequence_bytes h ++ rest)) 4 (omega arith)
    (rw (
      number_back _ _ r,
      state_back _ _ r,
      receive_state_back,
      number_back _ _ s,
      state_back _ _ s,
      send_state_back,
    )))

pub sequence_same : (h : SequenceLayerHeader) (rest : Bytes) → S.WellFormed h
    → sequence_read (sequence_bytes h ++ rest) ≡ Ok h
sequence_same h rest w = sequence_back h rest ∙ rw (mod-eq_of_lt w.receive, mod-eq_of_lt w.send)

-- ---- the command

segmentation_back : (s : Segmentation) → segmentation_of (segmentation_number s) ≡ s
unfolding pick among
segmentation_back Segmentation.Expedited = refl
segmentation_back Segmentation.Initiate = refl
segmentation_back Segmentation.Segment = refl
segmentation_back Segmentation.Complete = refl

-- each flag is read from the bit that it was written to
module _ (k : ℕ) where
  abbrev flags : Bool → Bool → ℕ
  flags r a = flag_bit r 0x10 + flag_bit a 0x20 + k * 64

  response_back : (r a : Bool) → is_response (flags r a) ≡ r
  response_back true true = eq-eqb ((0x10 + 0x20 + k * 64) / 0x10 % 2) 1 (omega arith)
  response_back true false = eq-eqb ((0x10 + 0 + k * 64) / 0x10 % 2) 1 (omega arith)
  response_back false true = ne_eqb ((0 + 0x20 + k * 64) / 0x10 % 2) 1 (λ e. omega arith)
  response_back false false = ne_eqb ((0 + 0 + k * 64) / 0x10 % 2) 1 (λ e. omega arith)

  aborted_back : (r a : Bool) → is_aborted (flags r a) ≡ a
  aborted_back true true = eq-eqb ((0x10 + 0x20 + k * 64) / 0x20 % 2) 1 (omega arith)
  aborted_back true false = ne_eqb ((0x10 + 0 + k * 64) / 0x20 % 2) 1 (λ e. omega arith)
  aborted_back false true = eq-eqb ((0 + 0x20 + k * 64) / 0x20 % 2) 1 (omega arith)
  aborted_back false false = ne_eqb ((0 + 0 + k * 64) / 0x20 % 2) 1 (λ e. omega arith)

  kind_back : (r a : Bool) → flags r a / 64 ≡ k
  kind_back true true = omega arith
  kind_back true false = omega arith
  kind_back false true = omega arith
  kind_back false false = omega arith

-- the numbers of a command as the code holds them: a segment size of 16 bits, a data size of 32
abbrev pub SizeFits : Option ℕ → Type 0
SizeFits (Some n) = n < 4294967296
SizeFits None = Unit

pub record Fits (c : SdoCommand) : Type 0 where
  pub segment : c.header.segment_size < 65536
  pub size : SizeFits c.data_size

header_back : (h : CommandLayerHeader) (tail : Bytes) → h.segment_size < 65536 → header_at (fixed_head h ++ tail) h.command_id ≡ h
header_back h tail fits =
    let k : ℕ = segmentation_number h.segmentation in
    let n : h.segment_size % 256 + h.segment_size / 256 % 256 * 256 ≡ h.segment_size = omega arith in
    rw (
      response_back k h.is_response h.is_aborted,
      aborted_back k h.is_response h.is_aborted,
      kind_back k h.is_response h.is_aborted,
      segmentation_back,
      n,
    )

-- a data size is written with Initiate only, and an absent one as 0
abbrev pub size_as_written : Segmentation → Option ℕ → Option ℕ
size_as_written Segmentation.Initiate (Some n) = Some n
size_as_written Segmentation.Initiate None = Some 0
size_as_written Segmentation.Expedited d = None
size_as_written Segmentation.Segment d = None
size_as_written Segmentation.Complete d = None

-- a number of 32 bits is that of its four bytes
joined : (n q r s a b c d : ℕ) → q * 256 + a ≡ n → r * 256 + b ≡ q → s * 256 + c ≡ r → d ≡ s → a + b * 256 + (c + d * 256) * 65536 ≡ n
joined n q r s a b c d e f g h = omega arith

byte_off : (n : ℕ) → n / 256 * 256 + n % 256 ≡ n
byte_off n = omega arith

pub four_bytes : (n : ℕ) → n < 4294967296 → n % 256 + n / 256 % 256 * 256 + (n / 65536 % 256 + n / 16777216 % 256 * 256) * 65536 ≡ n
four_bytes n h =
    let e : n / 65536 ≡ n / 256 / 256 = omega arith in
    let f : n / 16777216 ≡ n / 256 / 256 / 256 = omega arith in
    let last : n / 256 / 256 / 256 < 256 = omega arith in
    rw (e, f)
    (joined n (n / 256) (n / 256 / 256) (n / 256 / 256 / 256) _ _ _ _
    (byte_off n) (byte_off (n / 256)) (byte_off (n / 256 / 256)) (mod-eq_of_lt last))

size_back : (h : CommandLayerHeader) (s : Segmentation) (d : Option ℕ) (tail : Bytes) → SizeFits d
    → data_size_at (fixed_head h ++ (after_head s d ++ tail)) s ≡ size_as_written s d
size_back h Segmentation.Expedited d tail fits = refl
size_back h Segmentation.Initiate (Some n) tail fits =
    rw (four_bytes n fits)
size_back h Segmentation.Initiate None tail fits = refl
size_back h Segmentation.Segment d tail fits = refl
size_back h Segmentation.Complete d tail fits = refl

-- a command as it is read back
abbrev pub as_written : SdoCommand → SdoCommand
as_written c = record { header = c.header; data_size = size_as_written c.header.segmentation c.data_size }

module _ (c : SdoCommand) (payload rest : Bytes) (fits : Fits c) where
  abbrev kind : Segmentation
  kind = c.header.segmentation

  -- what was written, cut behind its fixed bytes
  abbrev whole : Bytes
  whole = fixed_head c.header ++ (after_head kind c.data_size ++ (payload ++ rest))

  in_two : command_bytes c payload ++ rest ≡ whole
  unfolding command_bytes command_head
  in_two =
      rw (
        append_assoc (fixed_head c.header ++ after_head kind c.data_size) payload rest,
        append_assoc (fixed_head c.header),
      )

  whole_length : length whole ≡ head_length kind + length (payload ++ rest)
  whole_length = sym (ap length in_two) ∙ rw (length-append, bytes_length c payload, length-append payload rest, add_assoc)

  read_head : command_read whole ≡ read_payload whole c.header
  unfolding command_read
  read_head =
      sym
      (not_below _ _ (length whole) 8 (omega arith)
      (rw (decoded_back c.header.command_id)
      (ap (read_payload whole) (sym (header_back c.header (after_head kind c.data_size ++ (payload ++ rest)) fits.segment)))))

  -- every command: its payload is what its segment size says of what lies behind its head
  pub written_whole : c.header.segment_size ≤ length (payload ++ rest)
      → command_read (command_bytes c payload ++ rest)
      ≡ found (as_written c) (head_length kind) c.header.segment_size
  written_whole h =
      let l = whole_length in
      let inside : head_length kind + c.header.segment_size ≤ length whole = omega arith in
      rw in_two
      (read_head
      ∙ sym
      (payload_whole whole c.header (head_length kind) refl (size_as_written kind c.data_size)
      (sym (size_back c.header kind c.data_size (payload ++ rest) fits.size)) inside))

  pub written_short : length (payload ++ rest) < c.header.segment_size
      → command_read (command_bytes c payload ++ rest) ≡ too_short
  written_short h =
      let l = whole_length in
      let past : length whole < head_length kind + c.header.segment_size = omega arith in
      rw in_two (read_head ∙ sym (payload_past whole c.header (head_length kind) refl past))

-- a well-formed command is read back the same, and so is its payload
sized_same : (s : Segmentation) (d : Option ℕ) → C.SizedAs s d → size_as_written s d ≡ d
sized_same Segmentation.Initiate (Some n) h = refl
sized_same Segmentation.Initiate None h = absurd h
sized_same Segmentation.Expedited (Some n) h = absurd h
sized_same Segmentation.Expedited None h = refl
sized_same Segmentation.Segment (Some n) h = absurd h
sized_same Segmentation.Segment None h = refl
sized_same Segmentation.Complete (Some n) h = absurd h
sized_same Segmentation.Complete None h = refl

module _ (c : SdoCommand) (payload rest : Bytes) (w : C.WellFormed c payload) where
  pub command_same : Fits c
      → command_read (command_bytes c payload ++ rest) ≡ found c (head_length c.header.segmentation) (length payload)
  command_same fits =
      let e = w.segment in
      let l = length-append payload rest in
      written_whole c payload rest fits (omega arith)
      ∙ rw (e, sized_same c.header.segmentation c.data_size w.sized)

  pub payload_same : part_at (command_bytes c payload ++ rest) (head_length c.header.segmentation) (length payload) ≡ payload
  unfolding part_at command_bytes
  payload_same =
      let l = bytes_length c payload in
      let inside : head_length c.header.segmentation + length payload ≤ length (command_head c ++ payload ++ rest) =
      rw (length-append (command_head c ++ payload) rest) (omega arith) in
      sym
      (within _ _ _ _ inside
      (rw (append_assoc (command_head c) payload rest, ← head_length_lem c, drop-append_seam, take-append_seam)))
