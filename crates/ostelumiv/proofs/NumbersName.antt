-- What the numbers in an answer name, by cases of the codec's answer: with a refusal they are 0.
use Rattle.std.specs.Prelude.{Option, Some, None, Result, Ok, Err, ℕ}
use Rattle.codec.specs.declared.refusal.Refusal.{Refusal}
use Rattle.codec.specs.declared.sequence.SequenceLayerHeader.{SequenceLayerHeader}
use Rattle.codec.specs.declared.request.MultipleParamEntry.{MultipleParamEntry}
use Rattle.codec.specs.declared.command.FoundCommand.{FoundCommand}
use Prim.Native.Nat.{◌<◌}
use native.Mathlib.Omega.{arith}
use mathlib.Core.Bool.{Bool, true, false}
use mathlib.Core.Path.{refl}
use mathlib.Core.Logic.{inl}
use Rattle.codec.proofs.Commands.{decoded_back, membership}
use Rattle.codec.proofs.RoundTrips.{receive_small, send_small}
use Rattle.codec.specs.Command.{In, Named, command_number, command_numbers, command_of, segmentation_number}
use Rattle.codec.specs.declared.command.CommandId.{CommandId}
use Rattle.codec.specs.declared.command.Segmentation.{Segmentation}
use Rattle.ostelumiv.specs.Names.{NumbersName}
use Rattle.ostelumiv.specs.Command.{command_fields, listed_fields, number_of, size_present}
use Rattle.ostelumiv.specs.Request.{entry_fields}
use Rattle.ostelumiv.specs.Sequence.{sequence_fields}

receive_state_lem : (r : Result SequenceLayerHeader Refusal) → (sequence_fields r).receive_con < 4
receive_state_lem (Ok h) = receive_small h.receive_con
receive_state_lem (Err r) = omega arith

send_state_lem : (r : Result SequenceLayerHeader Refusal) → (sequence_fields r).send_con < 4
send_state_lem (Ok h) = send_small h.send_con
send_state_lem (Err r) = omega arith

flag_small : (b : Bool) → number_of b < 2
flag_small true = omega arith
flag_small false = omega arith

segmentation_small : (s : Segmentation) → segmentation_number s < 4
segmentation_small Segmentation.Expedited = omega arith
segmentation_small Segmentation.Initiate = omega arith
segmentation_small Segmentation.Segment = omega arith
segmentation_small Segmentation.Complete = omega arith

size_small : (d : Option ℕ) → size_present d < 2
size_small (Some n) = omega arith
size_small None = omega arith

in_table : (id : CommandId) → In (command_number id) command_numbers
in_table id =
    let h : Named (command_number id) command_numbers (command_of (command_number id)) = membership (command_number id) in
    (rw (decoded_back id) at h).0

response : (r : Result FoundCommand Refusal) → (command_fields r).is_response < 2
response (Ok f) = flag_small f.command.header.is_response
response (Err r) = omega arith

aborted : (r : Result FoundCommand Refusal) → (command_fields r).is_aborted < 2
aborted (Ok f) = flag_small f.command.header.is_aborted
aborted (Err r) = omega arith

segmentation : (r : Result FoundCommand Refusal) → (command_fields r).segmentation < 4
segmentation (Ok f) = segmentation_small f.command.header.segmentation
segmentation (Err r) = omega arith

number : (r : Result FoundCommand Refusal) → In (command_fields r).command_id command_numbers
number (Ok f) = in_table f.command.header.command_id
number (Err r) = inl refl

data_size : (r : Result FoundCommand Refusal) → (command_fields r).has_data_size < 2
data_size (Ok f) = size_small f.command.data_size
data_size (Err r) = omega arith

listed : (l : Option ℕ) → (listed_fields l).listed < 2
listed (Some n) = omega arith
listed None = omega arith

found : (f : Option MultipleParamEntry) → (entry_fields f).found < 2
found (Some e) = omega arith
found None = omega arith

pub numbers_name : NumbersName
numbers_name =
    record {
      receive_state_lem = receive_state_lem;
      send_state_lem = send_state_lem;
      response = response;
      aborted = aborted;
      segmentation = segmentation;
      number = number;
      data_size = data_size;
      listed = listed;
      found = found;
    }
