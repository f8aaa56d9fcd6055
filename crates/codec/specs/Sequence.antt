-- The sequence header (document 01, "Bytes"): octet 0 is receive number × 4 + receive state, octet 1 send number × 4 + send state, two
-- zeros. When written, numbers are taken modulo 64. Reading ignores octets 2 and 3. A header is well formed when both numbers are
-- below 64.
use Rattle.std.specs.Prelude.{ℕ, ◌+◌, ◌*◌, ◌/◌, ◌%◌, ◌<◌, [], ◌∷◌, ltb, length, get_or, Result, Ok, Err}
use Rattle.laws.specs.Pick.{pick, among}
use Rattle.codec.specs.Bytes.{Bytes}
use Rattle.codec.specs.declared.refusal.Refusal.{Refusal}
use Rattle.codec.specs.declared.sequence.ReceiveConnState.{ReceiveConnState}
use Rattle.codec.specs.declared.sequence.SendConnState.{SendConnState}
use Rattle.codec.specs.declared.sequence.SequenceLayerHeader.{SequenceLayerHeader}

-- the number of each state
abbrev pub receive_conn_number : ReceiveConnState → ℕ
receive_conn_number ReceiveConnState.NoConnection = 0
receive_conn_number ReceiveConnState.Initialization = 1
receive_conn_number ReceiveConnState.ConnectionValid = 2
receive_conn_number ReceiveConnState.ErrorResponse = 3

abbrev pub send_conn_number : SendConnState → ℕ
send_conn_number SendConnState.NoConnection = 0
send_conn_number SendConnState.Initialization = 1
send_conn_number SendConnState.ConnectionValid = 2
send_conn_number SendConnState.ConnectionValidAckRequest = 3

-- the state of a number
abbrev pub receive_conn_state : ℕ → ReceiveConnState
receive_conn_state n =
    among n
    ReceiveConnState.NoConnection
    ReceiveConnState.Initialization
    ReceiveConnState.ConnectionValid
    ReceiveConnState.ErrorResponse

abbrev pub send_conn_state : ℕ → SendConnState
send_conn_state n =
    among n
    SendConnState.NoConnection
    SendConnState.Initialization
    SendConnState.ConnectionValid
    SendConnState.ConnectionValidAckRequest

-- the header that octets 0 and 1 carry
abbrev pub header_of : ℕ → ℕ → SequenceLayerHeader
header_of octet0 octet1 =
    record {
      receive_sequence_number = octet0 / 4;
      receive_con = receive_conn_state (octet0 % 4);
      send_sequence_number = octet1 / 4;
      send_con = send_conn_state (octet1 % 4);
    }

-- what reading a header from the start of the bytes finds
unfoldable pub sequence_read : Bytes → Result SequenceLayerHeader Refusal
sequence_read b =
    pick (ltb (length b) 4)
    (Err Refusal.BufferTooShort)
    (Ok (header_of (get_or b 0 0) (get_or b 1 0)))

-- the four bytes that a header is written as
abbrev pub sequence_bytes : SequenceLayerHeader → Bytes
sequence_bytes h =
    (h.receive_sequence_number % 64 * 4 + receive_conn_number h.receive_con)
    ∷ (h.send_sequence_number % 64 * 4 + send_conn_number h.send_con)
    ∷ 0 ∷ 0 ∷ []

pub record WellFormed (h : SequenceLayerHeader) : Type 0 where
  pub receive : h.receive_sequence_number < 64
  pub send : h.send_sequence_number < 64
