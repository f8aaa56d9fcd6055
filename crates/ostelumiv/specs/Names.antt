-- What the numbers in each answer of the C functions name, on refusals too: a state and a segmentation are below 4, a command number is one of the table,
-- a flag is 0 or 1. So a caller may take each for what it names, with no check of its own, as rust/ostelumiv does.
use Rattle.std.specs.Prelude.{◌<◌, Option, Result, ℕ}
use Rattle.codec.specs.declared.refusal.Refusal.{Refusal}
use Rattle.codec.specs.declared.sequence.SequenceLayerHeader.{SequenceLayerHeader}
use Rattle.codec.specs.declared.request.MultipleParamEntry.{MultipleParamEntry}
use Rattle.codec.specs.declared.command.FoundCommand.{FoundCommand}
use Rattle.codec.specs.Command.{In, command_numbers}
use Rattle.ostelumiv.specs.Command.{command_fields, listed_fields}
use Rattle.ostelumiv.specs.Request.{entry_fields}
use Rattle.ostelumiv.specs.Sequence.{sequence_fields}

pub record NumbersName : Type 0 where
  pub receive_state_lem : (r : Result SequenceLayerHeader Refusal) → (sequence_fields r).receive_con < 4
  pub send_state_lem : (r : Result SequenceLayerHeader Refusal) → (sequence_fields r).send_con < 4
  pub response : (r : Result FoundCommand Refusal) → (command_fields r).is_response < 2
  pub aborted : (r : Result FoundCommand Refusal) → (command_fields r).is_aborted < 2
  pub segmentation : (r : Result FoundCommand Refusal) → (command_fields r).segmentation < 4
  pub number : (r : Result FoundCommand Refusal) → In (command_fields r).command_id command_numbers
  pub data_size : (r : Result FoundCommand Refusal) → (command_fields r).has_data_size < 2
  pub listed : (l : Option ℕ) → (listed_fields l).listed < 2
  pub found : (f : Option MultipleParamEntry) → (entry_fields f).found < 2
