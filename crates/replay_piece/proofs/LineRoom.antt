-- A line has room where 8,211 bytes of the text are free.
use Rattle.std.specs.Prelude.{Result, Ok, IsOk}
use Prim.Native.Nat.{ℕ, ◌+◌, ◌≤◌}
use native.Mathlib.Omega.{arith}
use mathlib.Core.Path.{◌≡◌, refl, sym, ap, subst, ◌∙◌}
use lib.ListN.{length}
use Rattle.laws.proofs.Picks.{within}
use Rattle.codec.proofs.WrittenBytes.{placed_length}
use Rattle.codec.specs.Bytes.{Bytes, placed}
use Rattle.replay_line.specs.Line.{Short, line_answer, line_buffer, most_line}
use Rattle.replay_piece.specs.Types.{Refusal}

module _ (text : Bytes) (at : ℕ) (line : Bytes) (room : at + most_line ≤ length text) (w : Result ℕ Refusal) (e : w ≡ line_answer text at line) where
  -- it is written
  as_written_lem : w ≡ Ok (length line)
  unfolding line_answer
  as_written_lem = e ∙ sym (within _ _ _ _ room refl)

  pub has_room : IsOk w
  has_room = rw as_written_lem

  module _ {n : ℕ} (f : w ≡ Ok n) (s : Short w) where
    same : n ≡ length line
    same = cc (as_written_lem, f)

    -- where the text ends is a number
    pub line_ends : at + n ≤ length text
    line_ends = let k = subst Short f s in omega arith

    pub line_told : {after : Bytes} → after ≡ line_buffer text at line
        → (at + n ≡ at + length line) × ((after ≡ placed text at line) × (length after ≡ length text))
    unfolding line_buffer
    line_told g =
        let t : placed text at line ≡ line_buffer text at line = within _ _ _ _ room refl in
        let k = line_ends in
        (ap (λ x. at + x) same, (g ∙ sym t, ap length (g ∙ sym t) ∙ placed_length text at line (omega (arith, same))))
