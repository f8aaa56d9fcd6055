-- What each reader finds, by the tests that decide it.
use Rattle.std.specs.Prelude.{Option, Some, Result, Ok, Err}
use Rattle.codec.specs.declared.command.FoundCommand.{FoundCommand}
use Prim.Native.Nat.{ℕ, ◌+◌, ◌-◌, ◌<◌, ◌≤◌}
use native.Mathlib.Nat.{add-sub_cancel_left}
use native.Mathlib.Omega.{arith}
use mathlib.Core.Path.{◌≡◌, refl, ◌∙◌}
use mathlib.Core.List.{[]}
use lib.ListN.{length, get_or, take, drop}
use Rattle.std.specs.Option.{ok_or}
use Rattle.laws.proofs.Choices.{either}
use Rattle.laws.proofs.Picks.{is, is_not, within, beyond, below, not_below}
use Rattle.codec.specs.Bytes.{Bytes, le16_at, part_at}
use Rattle.codec.specs.Command.{command_of, header_at, head_length, data_size_at, found, too_short, read_payload, command_read}
use Rattle.codec.specs.Dcf.{size_at, dcf_step}
use Rattle.codec.specs.Sequence.{header_of, sequence_read}
use Rattle.codec.proofs.Commands.{was_decoded, was_unknown}
use Rattle.codec.specs.declared.command.CommandId.{CommandId}
use Rattle.codec.specs.declared.command.CommandLayerHeader.{CommandLayerHeader}
use Rattle.codec.specs.declared.dcf.DcfCursor.{DcfCursor}
use Rattle.codec.specs.declared.dcf.DcfStep.{DcfStep}
use Rattle.codec.specs.declared.refusal.Refusal.{Refusal}
use Rattle.codec.specs.declared.sequence.SequenceLayerHeader.{SequenceLayerHeader}

module _ (b : Bytes) where
  pub sequence_short : length b < 4 → Err Refusal.BufferTooShort ≡ sequence_read b
  unfolding sequence_read
  sequence_short h = below _ _ _ _ h refl

  pub sequence_whole : (h : SequenceLayerHeader) → 4 ≤ length b → h ≡ header_of (get_or b 0 0) (get_or b 1 0)
      → Ok h ≡ sequence_read b
  unfolding sequence_read
  sequence_whole h k e = not_below _ _ _ _ k (rw e)

module _ (b : Bytes) (start len : ℕ) where
  pub part_outside : length b < start + len → [] ≡ part_at b start len
  unfolding part_at
  part_outside h = beyond _ _ _ _ h refl

  pub part_inside : start + len ≤ length b → take (start + len - start) (drop start b) ≡ part_at b start len
  unfolding part_at
  part_inside h = within _ _ _ _ h (rw add-sub_cancel_left)

-- a command: what is found before its header is known, and with a header
module _ (b : Bytes) where
  pub command_short : length b < 8 → too_short ≡ command_read b
  unfolding command_read
  command_short h = below _ _ _ _ h refl

  pub command_known : (d : Option CommandId) (id : CommandId) (h : CommandLayerHeader) (a : Result FoundCommand Refusal) → 8 ≤ length b
      → d ≡ command_of (get_or b 3 0) → d ≡ Some id → h ≡ header_at b id → a ≡ read_payload b h → a ≡ command_read b
  unfolding command_read
  command_known d id h a k e f g r = not_below _ _ _ _ k (r ∙ rw (← e, f, g))

  -- by what the decoder answered
  module _ (head : 8 ≤ length b) {answer : Result CommandId Refusal}
      (e : answer ≡ ok_or (command_of (get_or b 3 0)) Refusal.InvalidEnumValue) where
    pub command_refused : {r : Refusal} → answer ≡ Err r → Err r ≡ command_read b
    unfolding command_read
    command_refused f = let u = was_unknown (command_of (get_or b 3 0)) e f in not_below _ _ _ _ head (rw (u.0, u.1))

    pub command_decoded : {id : CommandId} (h : CommandLayerHeader) (a : Result FoundCommand Refusal) → answer ≡ Ok id
        → h ≡ header_at b id → a ≡ read_payload b h → a ≡ command_read b
    command_decoded {id = id} h a f g r =
        command_known (command_of (get_or b 3 0)) id h a head refl (was_decoded (command_of (get_or b 3 0)) e f) g r

module _ (b : Bytes) (h : CommandLayerHeader) (start : ℕ) (e : start ≡ head_length h.segmentation) where
  pub payload_past : length b < start + h.segment_size → too_short ≡ read_payload b h
  unfolding read_payload
  payload_past k = either (λ x. too_short ≡ x) _ _ _ refl (below _ _ _ _ (rw e at k) refl)

  pub payload_whole : (d : Option ℕ) → d ≡ data_size_at b h.segmentation → start + h.segment_size ≤ length b
      → found (record { header = h; data_size = d }) start h.segment_size ≡ read_payload b h
  unfolding read_payload
  payload_whole d f k =
      let s : start ≤ length b = omega arith in
      not_below _ _ _ _ (rw e at s) (not_below _ _ _ _ (rw e at k) (rw (e, f)))

-- the step over a DCF
module _ (b : Bytes) (c : DcfCursor) where
  pub dcf_end : c.left ≡ 0 → DcfStep.End ≡ dcf_step b c
  unfolding dcf_step
  dcf_end e = is _ _ _ _ e refl

  pub dcf_no_head : (c.left ≡ 0 → ⊥) → length b < c.at + 7 → DcfStep.Unreadable ≡ dcf_step b c
  unfolding dcf_step
  dcf_no_head some h = is_not _ _ c.left 0 some (beyond _ _ _ _ h refl)

  pub dcf_no_data : (len : ℕ) → len ≡ size_at b c.at → (c.left ≡ 0 → ⊥) → 7 ≤ length b - c.at → length b - (c.at + 7) < len
      → DcfStep.Unreadable ≡ dcf_step b c
  unfolding dcf_step
  dcf_no_data len e some h k =
      let head : c.at + 7 ≤ length b = omega arith in
      let past : length b < c.at + 7 + len = omega arith in
      is_not _ _ c.left 0 some (within _ _ _ _ head (beyond _ _ _ _ (rw e at past) refl))

  pub dcf_entry : (index len : ℕ) → index ≡ le16_at b c.at → len ≡ size_at b c.at → (c.left ≡ 0 → ⊥)
      → 7 ≤ length b - c.at → len ≤ length b - (c.at + 7)
      → DcfStep.Entry (record { start = c.at + 7; len = len; index = index; sub_index = get_or b (c.at + 2) 0 })
      (record { at = c.at + 7 + len; left = c.left - 1 }) ≡ dcf_step b c
  unfolding dcf_step
  dcf_entry index len ei el some h k =
      let head : c.at + 7 ≤ length b = omega arith in
      let whole : c.at + 7 + len ≤ length b = omega arith in
      is_not _ _ c.left 0 some (within _ _ _ _ head (within _ _ _ _ (rw el at whole) (rw (ei, el))))
