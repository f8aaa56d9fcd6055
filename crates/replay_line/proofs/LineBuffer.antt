-- What a buffer holds after a header or a command was written to it.
use Rattle.std.specs.Prelude.{Result, Ok, IsOk}
use Prim.Native.Nat.{ℕ, ◌+◌, ◌≤◌}
use native.Mathlib.Omega.{arith}
use mathlib.Core.Path.{◌≡◌, refl, sym}
use mathlib.Core.List.{[], ◌++◌, append-nil}
use lib.ListN.{length, take, drop, drop_of_length-le}
use lib.Seq.{take_at}
use Rattle.laws.proofs.Picks.{within}
use Rattle.codec.specs.Bytes.{Bytes}
use Rattle.codec.specs.Command.{command_bytes, command_head}
use Rattle.codec.specs.Writing.{buffer_after, written}
use Rattle.codec.specs.declared.command.SdoCommand.{SdoCommand}
use Rattle.codec.proofs.CutParts.{head_short}
use Rattle.codec.proofs.WrittenBytes.{head_length_lem}
use Rattle.replay_line.specs.Text.{Puts, hex}
use Rattle.replay_line.specs.Types.{Refusal}
use Rattle.replay_line.specs.declared.text.Text.{Text}
use Rattle.replay_line.proofs.PutText.{put_as, puts}
use Rattle.replay_line.proofs.SpelledDigits.{hex_append}

-- a buffer as long as the bytes holds them and nothing else
pub filled : (bytes buffer : Bytes) → length buffer ≡ length bytes → buffer_after bytes buffer ≡ bytes
unfolding buffer_after
filled bytes buffer e =
    let d : drop (length bytes) buffer ≡ [] = drop_of_length-le buffer {i = length bytes} (omega arith) in
    sym (within _ _ (length bytes) (length buffer) (omega arith) (rw (d, append-nil)))

-- a command's head of at most 12 bytes, written alone to as many
module _ (c : SdoCommand) where
  pub head_most : length (command_head c) ≤ 12
  head_most = let e = head_length_lem c in let l = head_short c.header.segmentation in omega arith

  alone : command_bytes c [] ≡ command_head c
  unfolding command_bytes
  alone = append-nil (command_head c)

  module _ (buffer : Bytes) (k : length buffer ≡ 12) where
    head_fits : length (command_head c) ≤ length buffer
    head_fits = let l = head_most in omega arith

    answer : Ok (length (command_head c)) ≡ written (command_head c) buffer
    unfolding written
    answer = within _ _ _ _ head_fits refl

    left : command_head c ++ drop (length (command_head c)) buffer ≡ buffer_after (command_head c) buffer
    unfolding buffer_after
    left = within _ _ _ _ head_fits refl

    module _ {w : Result ℕ Refusal} (e : w ≡ written (command_bytes c []) buffer) where
      pub head_ok : IsOk w
      head_ok = rw (e, alone, ← answer)

      pub head_len : {n : ℕ} → w ≡ Ok n → n ≡ length (command_head c)
      head_len f = let a = answer in let h = alone in cc

      pub head_sent : {n : ℕ} {after : Bytes} → w ≡ Ok n → after ≡ buffer_after (command_bytes c []) buffer → take n after ≡ command_head c
      head_sent {n} f g =
          rw (g, alone, ← left) (take_at (command_head c) (drop (length (command_head c)) buffer) n (sym (head_len f)))

-- the head put in hex, and the payload behind it
pub command_put : {t m u : Text} {head : Bytes} {j k : ℕ} (c : SdoCommand) (payload : Bytes) → head ≡ command_head c
    → Puts t (hex head) j m → Puts m (hex payload) k u → Puts t (hex (command_bytes c payload)) (j + k) u
unfolding command_bytes
command_put c payload e p q = put_as (rw e (hex_append (command_head c) payload)) (puts p q)
