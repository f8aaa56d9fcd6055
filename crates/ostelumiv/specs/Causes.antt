-- The refusal in each answer of the C functions, by its number, given exactly when document 01's column says ("Numbers that refuse"), in the order of
-- the checks; the number is 0 exactly when no cause holds. `ostelumiv_multiple_param_entry` and `ostelumiv_dcf_step` refuse nothing.
use Rattle.std.specs.Prelude.{ℕ, ◌<◌, ◌≡◌, List, ◌∷◌}
use Rattle.laws.specs.Checks.{Check, Exactly, NoneOf, check}
use Rattle.codec.specs.Bytes.{Bytes}
use Rattle.codec.specs.Causes.{
  command_read_checks,
  command_write_checks,
  dcf_checks,
  index_checks,
  multiple_checks,
  sequence_read_checks,
  sequence_write_checks,
}
use Rattle.codec.specs.Command.{In, command_numbers, command_read, segmentation_of}
use Rattle.codec.specs.Dcf.{dcf_count}
use Rattle.codec.specs.Refusals.{refusal_number}
use Rattle.codec.specs.Request.{read_by_index, read_multiple_param, write_all_by_index, write_by_index}
use Rattle.codec.specs.Sequence.{sequence_read}
use Rattle.codec.specs.declared.refusal.Refusal.{Refusal}
use Rattle.ostelumiv.specs.Command.{command_fields, command_named, command_write_fields}
use Rattle.ostelumiv.specs.Dcf.{count_fields}
use Rattle.ostelumiv.specs.Request.{entries_fields, read_fields, write_all_fields, write_fields}
use Rattle.ostelumiv.specs.Sequence.{header_named, sequence_fields, sequence_write_fields}

-- In a C write, 2 is given also for a state or segmentation above 3, there ahead of 1.
abbrev pub sequence_named_checks : ℕ → ℕ → Bytes → List (Check Refusal)
sequence_named_checks receive_state send_state buffer =
    check Refusal.InvalidEnumValue (3 < receive_state)
    ∷ check Refusal.InvalidEnumValue (3 < send_state)
    ∷ sequence_write_checks buffer

abbrev pub command_named_checks : ℕ → ℕ → Bytes → Bytes → List (Check Refusal)
command_named_checks segmentation number payload buffer =
    check Refusal.InvalidEnumValue (3 < segmentation)
    ∷ check Refusal.InvalidEnumValue (In number command_numbers → ⊥)
    ∷ command_write_checks (segmentation_of segmentation) payload buffer

-- the number in an answer
abbrev pub Tells : List (Check Refusal) → ℕ → Type 0
Tells checks number = Exactly refusal_number checks number × ((number ≡ 0 → NoneOf checks) × (NoneOf checks → number ≡ 0))

pub record NumbersRefuse : Type 0 where
  pub sequence_read_lem : (b : Bytes) → Tells (sequence_read_checks b) (sequence_fields (sequence_read b)).refusal
  pub sequence_write : (receive receive_state send send_state : ℕ) (buffer : Bytes)
      → Tells (sequence_named_checks receive_state send_state buffer)
      (sequence_write_fields (header_named receive receive_state send send_state) buffer).refusal
  pub command_read_lem : (b : Bytes) → Tells (command_read_checks b) (command_fields (command_read b)).refusal
  pub command_write : (transaction response aborted segmentation number segment has size : ℕ) (payload buffer : Bytes)
      → Tells (command_named_checks segmentation number payload buffer)
      (command_write_fields (command_named transaction response aborted segmentation number segment has size) payload buffer).refusal
  pub read_by_index_lem : (p : Bytes) → Tells (index_checks p) (read_fields (read_by_index p)).refusal
  pub write_by_index_lem : (p : Bytes) → Tells (index_checks p) (write_fields (write_by_index p)).refusal
  pub write_all_by_index_lem : (p : Bytes) → Tells (index_checks p) (write_all_fields (write_all_by_index p)).refusal
  pub read_multiple_param_lem : (p : Bytes) → Tells (multiple_checks p) (entries_fields (read_multiple_param p)).refusal
  pub dcf_count_lem : (b : Bytes) → Tells (dcf_checks b) (count_fields (dcf_count b)).refusal
