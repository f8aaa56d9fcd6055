-- The command by numbers: those that a read tells, and what those that a write is given name.
use Rattle.std.specs.Prelude.{ℕ, Bool, true, false, ltb, eqb, Option, Some, None, Result, Ok, Err}
use Rattle.codec.specs.declared.command.CommandId.{CommandId}
use Rattle.codec.specs.declared.command.FoundCommand.{FoundCommand}
use Rattle.codec.specs.declared.command.SdoCommand.{SdoCommand}
use Rattle.laws.specs.Pick.{pick}
use Rattle.codec.specs.Bytes.{Bytes}
use Rattle.codec.specs.Command.{command_number, command_of, segmentation_number, segmentation_of, command_bytes}
use Rattle.codec.specs.Refusals.{refusal_number}
use Rattle.codec.specs.Writing.{written, buffer_after}
use Rattle.codec.specs.declared.refusal.Refusal.{Refusal}
use Rattle.ostelumiv.specs.Answers.{written_fields}
use Rattle.ostelumiv.specs.declared.answers.WrittenFields.{WrittenFields}
use Rattle.ostelumiv.specs.declared.command.CommandFields.{CommandFields}
use Rattle.ostelumiv.specs.declared.command.ListedFields.{ListedFields}

abbrev pub number_of : Bool → ℕ
number_of true = 1
number_of false = 0

-- whether a data size is present, as 1 or 0, and the data size, 0 where it is absent
abbrev pub size_present : Option ℕ → ℕ
size_present (Some n) = 1
size_present None = 0

abbrev pub size_number : Option ℕ → ℕ
size_number (Some n) = n
size_number None = 0

-- A read: refusal 0 and the values, or the refusal's number and zeros.
abbrev pub command_fields : Result FoundCommand Refusal → CommandFields
command_fields (Ok f) =
    record {
      refusal = 0;
      transaction_id = f.command.header.transaction_id;
      is_response = number_of f.command.header.is_response;
      is_aborted = number_of f.command.header.is_aborted;
      segmentation = segmentation_number f.command.header.segmentation;
      command_id = command_number f.command.header.command_id;
      segment_size = f.command.header.segment_size;
      has_data_size = size_present f.command.data_size;
      data_size = size_number f.command.data_size;
      payload_start = f.start;
      payload_len = f.len;
    }
command_fields (Err r) =
    record {
      refusal = refusal_number r;
      transaction_id = 0;
      is_response = 0;
      is_aborted = 0;
      segmentation = 0;
      command_id = 0;
      segment_size = 0;
      has_data_size = 0;
      data_size = 0;
      payload_start = 0;
      payload_len = 0;
    }

-- A place of the listing: 1 and its number, or 0 and 0.
abbrev pub listed_fields : Option ℕ → ListedFields
listed_fields (Some n) = record { listed = 1; number = n }
listed_fields None = record { listed = 0; number = 0 }

-- A flag is set by any number but 0.
abbrev pub flagged : ℕ → Bool
flagged n = pick (eqb n 0) false true

-- the command that eight numbers name: refusal 2 for a segmentation above 3 or an unknown command number
abbrev pub size_named : ℕ → ℕ → Option ℕ
size_named has size = pick (eqb has 0) None (Some size)

abbrev pub command_with : ℕ → ℕ → ℕ → ℕ → Option CommandId → ℕ → Option ℕ → Result SdoCommand Refusal
command_with transaction response aborted segmentation (Some id) segment size =
    Ok
    (record {
      header =
          record {
            transaction_id = transaction;
            is_response = flagged response;
            is_aborted = flagged aborted;
            segmentation = segmentation_of segmentation;
            command_id = id;
            segment_size = segment;
          };
      data_size = size;
    })
command_with transaction response aborted segmentation None segment size =
    Err Refusal.InvalidEnumValue

abbrev pub command_named : ℕ → ℕ → ℕ → ℕ → ℕ → ℕ → ℕ → ℕ → Result SdoCommand Refusal
command_named transaction response aborted segmentation number segment has size =
    pick (ltb 3 segmentation) (Err Refusal.InvalidEnumValue)
    (command_with transaction response aborted segmentation (command_of number) segment (size_named has size))

-- A write answers refusal 2 first, and then as the codec's own write does; with refusal 2 the buffer is as it was.
abbrev pub command_write_fields : Result SdoCommand Refusal → Bytes → Bytes → WrittenFields
command_write_fields (Ok c) payload buffer = written_fields (written (command_bytes c payload) buffer)
command_write_fields (Err r) payload buffer = written_fields (Err r)

abbrev pub command_write_buffer : Result SdoCommand Refusal → Bytes → Bytes → Bytes
command_write_buffer (Ok c) payload buffer = buffer_after (command_bytes c payload) buffer
command_write_buffer (Err r) payload buffer = buffer
