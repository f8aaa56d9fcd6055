-- The command numbers: the table's membership rule, by which the decoder's ranges are proved, and where the number of a command that was read stands.
use Rattle.std.specs.Prelude.{Option, Some, None, Result, Ok, Err}
use Prim.Native.Nat.{ℕ, ◌+◌, ◌≤◌}
use mathlib.Core.Path.{◌≡◌, refl, sym}
use mathlib.Core.Bool.{Bool, true, false}
use mathlib.Core.List.{List, [], ◌∷◌, map}
use mathlib.Core.Logic.{inl, inr, ⊎_elim}
use lib.Dec.{eqb, ltb}
use borrow.Author.Tests.{eqb-true, eqb-false, ltb-false, ltb-true}
use lib.ListN.{length, get_or}
use Rattle.std.specs.Option.{ok_or}
use Rattle.std.specs.List.{slice_get}
use Rattle.std.proofs.lemmas.Option.{slice_get-get_or, slice_get_past}
use Rattle.laws.proofs.Choices.{decided}
use Rattle.laws.proofs.Checks.{ok_otherwise}
use Rattle.laws.specs.Pick.{pick}
use Rattle.codec.specs.Bytes.{Bytes}
use Rattle.codec.specs.Command.{
  In,
  Named,
  command_number,
  commands,
  command_numbers,
  command_among,
  command_at,
  command_of,
  header_at,
  head_length,
  data_size_at,
  found,
  too_short,
  read_payload,
  read_decoded,
  command_read,
}
use Rattle.codec.specs.declared.command.CommandId.{CommandId}
use Rattle.codec.specs.declared.command.FoundCommand.{FoundCommand}
use Rattle.codec.specs.declared.command.CommandLayerHeader.{CommandLayerHeader}
use Rattle.codec.specs.declared.command.SdoCommand.{SdoCommand}
use Rattle.codec.specs.declared.refusal.Refusal.{Refusal}

-- The membership rule, by going through the table once.
named_in : (n : ℕ) (l : List CommandId) → Named n (map command_number l) (command_among n l)
unfolding pick
named_in n [] = λ z. z
named_in n (id ∷ rest) = go (eqb (command_number id) n) refl (named_in n rest)
  where
    longer : (d : Option CommandId) → (command_number id ≡ n → ⊥) → Named n (map command_number rest) d
        → Named n (command_number id ∷ map command_number rest) d
    longer (Some i) other h = (inr h.0, h.1)
    longer None other h = ⊎_elim other h

    go : (t : Bool) → eqb (command_number id) n ≡ t → Named n (map command_number rest) (command_among n rest)
        → Named n (command_number id ∷ map command_number rest) (pick t (Some id) (command_among n rest))
    go true e h = let same = eqb-true (command_number id) n e in (inl same, same)
    go false e h = longer (command_among n rest) (eqb-false (command_number id) n e) h

pub membership : (n : ℕ) → Named n command_numbers (command_of n)
unfolding command_of
membership n = named_in n commands

-- and every command is found by its number
pub decoded_back : (id : CommandId) → command_of (command_number id) ≡ Some id
unfolding pick command_of
decoded_back CommandId.Nil = refl
decoded_back CommandId.WriteByIndex = refl
decoded_back CommandId.ReadByIndex = refl
decoded_back CommandId.WriteAllByIndex = refl
decoded_back CommandId.ReadAllByIndex = refl
decoded_back CommandId.WriteByName = refl
decoded_back CommandId.ReadByName = refl
decoded_back CommandId.FileWrite = refl
decoded_back CommandId.FileRead = refl
decoded_back CommandId.WriteMultipleParamByIndex = refl
decoded_back CommandId.ReadMultipleParamByIndex = refl
decoded_back CommandId.Abort = refl
decoded_back CommandId.MaxSegmentSize = refl

-- so a number is decoded as the command whose number it is, and as none where no command has it
pub known : {id : CommandId} {n : ℕ} → n ≡ command_number id → Some id ≡ command_of n
known {id = id} e = rw (e, decoded_back id)

pub decoded : {id : CommandId} {n : ℕ} → n ≡ command_number id → Ok id ≡ ok_or (command_of n) Refusal.InvalidEnumValue
decoded {id = id} e = rw (e, decoded_back id)

-- a number is none of a table's
abbrev pub NotIn : ℕ → List ℕ → Type 0
NotIn n [] = Unit
NotIn n (x ∷ table) = (n ≡ x → ⊥) × NotIn n table

apart : (n : ℕ) (table : List ℕ) → NotIn n table → In n table → ⊥
apart n [] none h = h
apart n (x ∷ table) none (inl e) = none.0 (sym e)
apart n (x ∷ table) none (inr h) = apart n table none.1 h

pub unknown : {n : ℕ} → NotIn n command_numbers → Err Refusal.InvalidEnumValue ≡ ok_or (command_of n) Refusal.InvalidEnumValue
unknown {n = n} none = go (command_of n) (membership n)
  where
    go : (d : Option CommandId) → Named n command_numbers d → Err Refusal.InvalidEnumValue ≡ ok_or d Refusal.InvalidEnumValue
    go (Some id) h = absurd (apart n command_numbers none h.0)
    go None h = refl

-- and what the decoder answered says what the table has
pub was_decoded : (d : Option CommandId) {id : CommandId} {answer : Result CommandId Refusal}
    → answer ≡ ok_or d Refusal.InvalidEnumValue → answer ≡ Ok id → d ≡ Some id
was_decoded (Some i) e f = cc
was_decoded None e f = cc

pub was_unknown : (d : Option CommandId) {r : Refusal} {answer : Result CommandId Refusal}
    → answer ≡ ok_or d Refusal.InvalidEnumValue → answer ≡ Err r → (d ≡ None) × (r ≡ Refusal.InvalidEnumValue)
was_unknown (Some i) e f = (cc, cc)
was_unknown None e f = (refl, cc)

-- The listing: what stands at a place of the table.
pub listed : (place : ℕ) → slice_get command_numbers place ≡ command_at place
unfolding command_at
listed place =
    decided (λ x. slice_get command_numbers place ≡ x) (ltb place 13) _ _
    (λ e. slice_get-get_or command_numbers place 0 (ltb-true place 13 e)) (λ e. slice_get_past command_numbers place (ltb-false place 13 e))

-- A command that was read is no refusal, and its number stands in its fourth byte.
pub read_whole : (f : FoundCommand) (r : Refusal) → ◌≡◌ {A = Result FoundCommand Refusal} (Ok f) (Err r) → ⊥
read_whole f r e = ok_otherwise _ _ e

same_command : {f g : FoundCommand} → ◌≡◌ {A = Result FoundCommand Refusal} (Ok f) (Ok g) → f.command ≡ g.command
same_command {f = f} {g = g} e = let z : f ≡ g = cc in rw z

module _ (b : Bytes) {f : FoundCommand} where
  with_payload : (id : CommandId) → Ok f ≡ read_payload b (header_at b id) → f.command.header.command_id ≡ id
  unfolding read_payload pick
  with_payload id e = go (ltb (length b) (head_length h.segmentation)) (ltb (length b) (head_length h.segmentation + h.segment_size)) e
    where
      h : CommandLayerHeader
      h = header_at b id

      whole : SdoCommand
      whole = record { header = h; data_size = data_size_at b h.segmentation }

      go : (s t : Bool)
          → Ok f ≡ pick s too_short (pick t too_short (found whole (head_length h.segmentation) h.segment_size))
          → f.command.header.command_id ≡ id
      go true t e = absurd (ok_otherwise _ _ e)
      go false true e = absurd (ok_otherwise _ _ e)
      go false false e = let same : f.command ≡ whole = same_command e in rw same

  with_decoded : (d : Option CommandId) → Named (get_or b 3 0) command_numbers d → Ok f ≡ read_decoded b d
      → get_or b 3 0 ≡ command_number f.command.header.command_id
  with_decoded (Some id) h e = rw (with_payload id e) (sym h.1)
  with_decoded None h e = absurd (ok_otherwise _ _ e)

  pub read_number : Ok f ≡ command_read b → (8 ≤ length b) × (get_or b 3 0 ≡ command_number f.command.header.command_id)
  unfolding command_read pick
  read_number e = go (ltb (length b) 8) refl e
    where
      go : (t : Bool) → ltb (length b) 8 ≡ t → Ok f ≡ pick t too_short (read_decoded b (command_of (get_or b 3 0)))
          → (8 ≤ length b) × (get_or b 3 0 ≡ command_number f.command.header.command_id)
      go true s e = absurd (ok_otherwise _ _ e)
      go false s e = (ltb-false _ _ s, with_decoded (command_of (get_or b 3 0)) (membership (get_or b 3 0)) e)
