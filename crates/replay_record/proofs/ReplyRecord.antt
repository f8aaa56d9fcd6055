-- The header and the command of a reply, as the codec reads them.
use Rattle.std.specs.Prelude.{None, Result, Ok, IsOk, ok_or}
use Rattle.codec.specs.declared.command.FoundCommand.{FoundCommand}
use Prim.Native.Nat.{ℕ, ◌/◌}
use native.Mathlib.Omega.{arith}
use mathlib.Core.Path.{◌≡◌, refl, ap}
use mathlib.Core.List.{[], ◌∷◌}
use Rattle.laws.specs.Pick.{pick}
use Rattle.codec.specs.Command.{command_of, command_read, data_size_at, head_length, header_at, segmentation_of}
use Rattle.codec.specs.Sequence.{header_of, sequence_read}
use Rattle.codec.proofs.ReadCases.{command_decoded, payload_whole, sequence_whole}
use Rattle.replay_record.specs.Request.{flagged, reply_command}
use Rattle.replay_record.specs.Types.{CommandId, Refusal, SdoCommand, SequenceLayerHeader}
use Rattle.codec.proofs.CutParts.{head_short}

-- four octets are a header
module _ (a b : ℕ) {r : Result SequenceLayerHeader Refusal} (e : r ≡ sequence_read (a ∷ b ∷ 0 ∷ 0 ∷ [])) where
  four : Ok (header_of a b) ≡ sequence_read (a ∷ b ∷ 0 ∷ 0 ∷ [])
  four = sequence_whole (a ∷ b ∷ 0 ∷ 0 ∷ []) (header_of a b) (omega arith) refl

  pub header_read : {h : SequenceLayerHeader} → r ≡ Ok h → h ≡ header_of a b
  header_read f = let g = four in cc

  pub header_ok : IsOk r
  header_ok = rw (e, ← four)

-- twelve bytes with command number 0 are a Nil command
module _ (flags : ℕ) {r : Result FoundCommand Refusal} (e : r ≡ command_read (flagged flags)) where
  nil : Ok CommandId.Nil ≡ ok_or (command_of 0) Refusal.InvalidEnumValue
  unfolding command_of pick
  nil = refl

  abbrev whole : SdoCommand
  whole =
      record { header = header_at (flagged flags) CommandId.Nil; data_size = data_size_at (flagged flags) (segmentation_of (flags / 64)) }

  twelve : Ok (record { command = whole; start = head_length (segmentation_of (flags / 64)); len = 0 }) ≡ command_read (flagged flags)
  twelve =
      let l = head_short (segmentation_of (flags / 64)) in
      command_decoded (flagged flags) (omega arith) nil (header_at (flagged flags) CommandId.Nil) _ refl refl
      (payload_whole (flagged flags) (header_at (flagged flags) CommandId.Nil) (head_length (segmentation_of (flags / 64))) refl _ refl (omega arith))

  pub command_read_lem : {f : FoundCommand} → r ≡ Ok f
      → ◌≡◌ {A = SdoCommand} (record { header = f.command.header; data_size = None }) (reply_command flags)
  command_read_lem {f} z =
      let g = twelve in
      let k : ◌≡◌ {A = FoundCommand} f (record { command = whole; start = head_length (segmentation_of (flags / 64)); len = 0 }) = cc in
      ap (λ (x : FoundCommand). record { header = x.command.header; data_size = None }) k

  pub command_ok : IsOk r
  command_ok = rw (e, ← twelve)
