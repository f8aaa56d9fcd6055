-- The refusals of the C functions, by their numbers: what the codec's answers go by, and ahead of it what the numbers of a write name.
use Rattle.std.specs.Prelude.{Option, Some, None, Result, Ok, Err}
use Rattle.codec.specs.declared.sequence.SequenceLayerHeader.{SequenceLayerHeader}
use Rattle.codec.specs.declared.command.CommandId.{CommandId}
use Rattle.codec.specs.declared.command.SdoCommand.{SdoCommand}
use Prim.Native.Nat.{ℕ, ◌≤◌, ◌<◌}
use native.Mathlib.Omega.{arith}
use mathlib.Core.Path.{◌≡◌, refl, sym, ap, ◌∙◌}
use mathlib.Core.List.{List, [], ◌∷◌, ◌++◌}
use mathlib.Core.Logic.{inl, inr}
use lib.ListN.{get_or}
use Rattle.laws.proofs.Checks.{Answers, Goes, Otherwise, exactly, ok_otherwise, refuses_below, told_by_lem, unrefused}
use Rattle.laws.specs.Checks.{Check, check}
use Rattle.codec.proofs.Commands.{membership}
use Rattle.codec.proofs.Refuses.{
  command_read_goes,
  command_write_goes,
  dcf_count_goes,
  read_by_index_goes,
  read_multiple_param_goes,
  sequence_read_goes,
  sequence_write_goes,
  write_all_by_index_goes,
  write_by_index_goes,
}
use Rattle.codec.specs.Bytes.{Bytes}
use Rattle.codec.specs.Causes.{
  command_read_checks,
  command_write_checks,
  dcf_checks,
  index_checks,
  multiple_checks,
  sequence_read_checks,
  sequence_write_checks,
}
use Rattle.codec.specs.Command.{In, Named, command_bytes, command_numbers, command_of, segmentation_of}
use Rattle.codec.specs.Refusals.{refusal_number}
use Rattle.codec.specs.Sequence.{sequence_bytes}
use Rattle.codec.specs.Writing.{written}
use Rattle.codec.specs.declared.refusal.Refusal.{Refusal}
use Rattle.ostelumiv.specs.Answers.{written_fields}
use Rattle.ostelumiv.specs.Causes.{NumbersRefuse, Tells, command_named_checks, sequence_named_checks}
use Rattle.ostelumiv.specs.Command.{command_fields, command_named, command_with, command_write_fields, size_named}
use Rattle.ostelumiv.specs.Dcf.{count_fields}
use Rattle.ostelumiv.specs.Request.{entries_fields, read_fields, write_all_fields, write_fields}
use Rattle.ostelumiv.specs.Sequence.{header_named, sequence_fields, sequence_write_fields}

-- ---- no two refusals have one number, and none has 0
abbrev refusals : List Refusal
refusals =
    Refusal.BufferTooShort
    ∷ Refusal.BufferTooShort
    ∷ Refusal.InvalidEnumValue
    ∷ Refusal.SdoInvalidCommandPayload
    ∷ Refusal.Busy
    ∷ Refusal.DcfTooShort
    ∷ Refusal.TableFull
    ∷ Refusal.NoRoom
    ∷ Refusal.DeadlineRange
    ∷ Refusal.WrongStore
    ∷ Refusal.BadRecord
    ∷ Refusal.ShortRecord
    ∷ []

abbrev numbered : ℕ → Refusal
numbered n = get_or refusals n Refusal.BufferTooShort

known : (r : Refusal) → (numbered (refusal_number r) ≡ r) × (1 ≤ refusal_number r)
known Refusal.BufferTooShort = (refl, omega arith)
known Refusal.InvalidEnumValue = (refl, omega arith)
known Refusal.SdoInvalidCommandPayload = (refl, omega arith)
known Refusal.Busy = (refl, omega arith)
known Refusal.DcfTooShort = (refl, omega arith)
known Refusal.TableFull = (refl, omega arith)
known Refusal.NoRoom = (refl, omega arith)
known Refusal.DeadlineRange = (refl, omega arith)
known Refusal.WrongStore = (refl, omega arith)
known Refusal.BadRecord = (refl, omega arith)
known Refusal.ShortRecord = (refl, omega arith)

same : (r s : Refusal) → refusal_number r ≡ refusal_number s → r ≡ s
same r s e = sym (known r).0 ∙ ap numbered e ∙ (known s).0

-- ---- numbers that go by checks
abbrev NoRefusal : ℕ → Type 0
NoRefusal n = n ≡ 0

abbrev Number : List (Check Refusal) → ℕ → Type 0
Number = Answers refusal_number NoRefusal

never : (r : Refusal) → NoRefusal (refusal_number r) → ⊥
never r e = let k = (known r).1 in omega arith

tells : (l : List (Check Refusal)) (n : ℕ) → Number l n → Tells l n
tells l n a = (exactly refusal_number NoRefusal never same l n a, unrefused refusal_number NoRefusal never l n a)

-- the number that is told of an answer: 0 of what is no refusal's
module _ {T : Type 0} (number : Result T Refusal → ℕ) (is : (r : Refusal) → number (Err r) ≡ refusal_number r)
    (none : (x : T) → number (Ok x) ≡ 0) where
  nothing : (x : Result T Refusal) → Otherwise Err x → number x ≡ 0
  nothing (Ok x) o = none x
  nothing (Err r) o = absurd (o r refl)

  number_of : (l : List (Check Refusal)) (x : Result T Refusal) → Goes l x → Number (l ++ []) (number x)
  number_of l x = told_by_lem Err (Otherwise Err) refusal_number NoRefusal number is l [] x (nothing x)

  tells_of : (l : List (Check Refusal)) (x : Result T Refusal) → Goes l x → Tells (l ++ []) (number x)
  tells_of l x g = tells (l ++ []) (number x) (number_of l x g)

of_written : (l : List (Check Refusal)) (x : Result ℕ Refusal) → Goes l x → Number (l ++ []) (written_fields x).refusal
of_written = number_of (λ x. (written_fields x).refusal) (λ r. refl) (λ n. refl)

-- ---- what the numbers of a write name
module _ (receive receive_state send send_state : ℕ) (buffer : Bytes) where
  abbrev send_check : List (Check Refusal)
  send_check = check Refusal.InvalidEnumValue (3 < send_state) ∷ []

  abbrev state_checks : List (Check Refusal)
  state_checks = check Refusal.InvalidEnumValue (3 < receive_state) ∷ send_check

  abbrev header : Result SequenceLayerHeader Refusal
  header = header_named receive receive_state send send_state

  header_goes : Goes state_checks header
  header_goes =
      refuses_below Err (Otherwise Err) send_check _ 3 receive_state
      (λ e. refuses_below Err (Otherwise Err) [] _ 3 send_state
      (λ f. ok_otherwise _))

  sequence_write_number : Number (sequence_named_checks receive_state send_state buffer) (sequence_write_fields header buffer).refusal
  sequence_write_number =
      told_by_lem Err (Otherwise Err) refusal_number NoRefusal (λ x. (sequence_write_fields x buffer).refusal) (λ r. refl)
      state_checks (sequence_write_checks buffer) header (go header) header_goes
    where
      go : (x : Result SequenceLayerHeader Refusal) → Otherwise Err x → Number (sequence_write_checks buffer) (sequence_write_fields x buffer).refusal
      go (Ok h) o = of_written (sequence_write_checks buffer) (written (sequence_bytes h) buffer) (sequence_write_goes h buffer)
      go (Err r) o = absurd (o r refl)

module _ (transaction response aborted segmentation number segment has size : ℕ) (payload buffer : Bytes) where
  -- a command that is named has the segmentation that was given
  abbrev Kind : Result SdoCommand Refusal → Type 0
  Kind (Ok c) = c.header.segmentation ≡ segmentation_of segmentation
  Kind (Err r) = ⊥

  abbrev number_check : List (Check Refusal)
  number_check = check Refusal.InvalidEnumValue (In number command_numbers → ⊥) ∷ []

  with_goes : (d : Option CommandId) → Named number command_numbers d
      → Answers Err Kind number_check
      (command_with transaction response aborted segmentation d segment (size_named has size))
  with_goes (Some id) h = inr (λ z. z h.0, refl)
  with_goes None h = inl (h, refl)

  abbrev named : Result SdoCommand Refusal
  named = command_named transaction response aborted segmentation number segment has size

  command_write_number : Number (command_named_checks segmentation number payload buffer) (command_write_fields named payload buffer).refusal
  command_write_number =
      told_by_lem Err Kind refusal_number NoRefusal (λ x. (command_write_fields x payload buffer).refusal) (λ r. refl)
      (check Refusal.InvalidEnumValue (3 < segmentation) ∷ number_check) (command_write_checks (segmentation_of segmentation) payload buffer)
      named (go named)
      (refuses_below Err Kind number_check _ 3 segmentation (λ e. with_goes (command_of number) (membership number)))
    where
      go : (x : Result SdoCommand Refusal) → Kind x
          → Number (command_write_checks (segmentation_of segmentation) payload buffer) (command_write_fields x payload buffer).refusal
      go (Ok c) k =
          rw (← k)
          (of_written (command_write_checks c.header.segmentation payload buffer) (written (command_bytes c payload) buffer)
          (command_write_goes c payload buffer))
      go (Err r) k = absurd k

pub numbers_refuse : NumbersRefuse
numbers_refuse =
    record {
      sequence_read_lem = λ b.
          tells_of (λ x. (sequence_fields x).refusal) (λ r. refl) (λ q. refl) (sequence_read_checks b) _ (sequence_read_goes b);
      sequence_write = λ receive receive_state send send_state buffer.
          tells (sequence_named_checks receive_state send_state buffer) _ (sequence_write_number receive receive_state send send_state buffer);
      command_read_lem = λ b.
          tells_of (λ x. (command_fields x).refusal) (λ r. refl) (λ q. refl) (command_read_checks b) _ (command_read_goes b);
      command_write = λ transaction response aborted segmentation number segment has size payload buffer.
          tells (command_named_checks segmentation number payload buffer) _
          (command_write_number transaction response aborted segmentation number segment has size payload buffer);
      read_by_index_lem = λ p.
          tells_of (λ x. (read_fields x).refusal) (λ r. refl) (λ q. refl) (index_checks p) _ (read_by_index_goes p);
      write_by_index_lem = λ p.
          tells_of (λ x. (write_fields x).refusal) (λ r. refl) (λ q. refl) (index_checks p) _ (write_by_index_goes p);
      write_all_by_index_lem = λ p.
          tells_of (λ x. (write_all_fields x).refusal) (λ r. refl) (λ q. refl) (index_checks p) _ (write_all_by_index_goes p);
      read_multiple_param_lem = λ p.
          tells_of (λ x. (entries_fields x).refusal) (λ r. refl) (λ q. refl) (multiple_checks p) _
          (read_multiple_param_goes p);
      dcf_count_lem = λ b.
          tells_of (λ x. (count_fields x).refusal) (λ r. refl) (λ q. refl) (dcf_checks b) _ (dcf_count_goes b);
    }
