-- The sequence header by numbers: those that a read tells, and what those that a write is given name.
use Rattle.std.specs.Prelude.{ℕ, ltb, Result, Ok, Err}
use Rattle.codec.specs.declared.sequence.SequenceLayerHeader.{SequenceLayerHeader}
use Rattle.laws.specs.Pick.{pick}
use Rattle.codec.specs.Bytes.{Bytes}
use Rattle.codec.specs.Refusals.{refusal_number}
use Rattle.codec.specs.Sequence.{
  receive_conn_number,
  receive_conn_state,
  send_conn_number,
  send_conn_state,
  sequence_bytes,
}
use Rattle.codec.specs.Writing.{written, buffer_after}
use Rattle.codec.specs.declared.refusal.Refusal.{Refusal}
use Rattle.ostelumiv.specs.Answers.{written_fields}
use Rattle.ostelumiv.specs.declared.answers.WrittenFields.{WrittenFields}
use Rattle.ostelumiv.specs.declared.sequence.SequenceFields.{SequenceFields}

-- A read: refusal 0 and the values, or the refusal's number and zeros.
abbrev pub sequence_fields : Result SequenceLayerHeader Refusal → SequenceFields
sequence_fields (Ok h) =
    record {
      refusal = 0;
      receive_sequence_number = h.receive_sequence_number;
      receive_con = receive_conn_number h.receive_con;
      send_sequence_number = h.send_sequence_number;
      send_con = send_conn_number h.send_con;
    }
sequence_fields (Err r) =
    record {
      refusal = refusal_number r;
      receive_sequence_number = 0;
      receive_con = 0;
      send_sequence_number = 0;
      send_con = 0;
    }

-- the header that four numbers name: refusal 2 for a state above 3
abbrev pub header_named : ℕ → ℕ → ℕ → ℕ → Result SequenceLayerHeader Refusal
header_named receive receive_state send send_state =
    pick (ltb 3 receive_state) (Err Refusal.InvalidEnumValue) (
    pick (ltb 3 send_state) (Err Refusal.InvalidEnumValue)
    (Ok
    (record {
      receive_sequence_number = receive;
      receive_con = receive_conn_state receive_state;
      send_sequence_number = send;
      send_con = send_conn_state send_state;
    })))

-- A write answers refusal 2 first, and then as the codec's own write does; with refusal 2 the buffer is as it was.
abbrev pub sequence_write_fields : Result SequenceLayerHeader Refusal → Bytes → WrittenFields
sequence_write_fields (Ok h) buffer = written_fields (written (sequence_bytes h) buffer)
sequence_write_fields (Err r) buffer = written_fields (Err r)

abbrev pub sequence_write_buffer : Result SequenceLayerHeader Refusal → Bytes → Bytes
sequence_write_buffer (Ok h) buffer = buffer_after (sequence_bytes h) buffer
sequence_write_buffer (Err r) buffer = buffer
