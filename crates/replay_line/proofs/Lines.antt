-- What the parts of a line come to.
use Rattle.std.specs.Prelude.{Result, Ok, Err, Bool, true, false, leb}
use Prim.Native.Nat.{ℕ, ◌+◌, ◌-◌, ◌≤◌, ◌<◌}
use native.Mathlib.Omega.{arith}
use mathlib.Core.Path.{◌≡◌, refl, sym, ap, ◌∙◌}
use lib.ListN.{length, get_or}
use borrow.Author.Tests.{leb-true}
use Rattle.laws.specs.Pick.{pick}
use Rattle.laws.proofs.Picks.{below, not_below, within}
use Rattle.codec.specs.Bytes.{Bytes, placed}
use Rattle.replay_line.specs.Line.{Short, byte_text, line_answer, line_buffer, most_line, nothing, operation_text}
use Rattle.replay_line.specs.Text.{Puts}
use Rattle.replay_line.specs.declared.text.Text.{Text}
use Rattle.replay_line.specs.Types.{Refusal}
use Rattle.replay_line.proofs.PutText.{put_as}

-- the operation, where the record has none and where it has one
module _ {t u : Text} {most : ℕ} (b : Bytes) where
  pub operation_none : length b < 32 → Puts t nothing most u → Puts t (operation_text b) most u
  unfolding operation_text
  operation_none h = put_as (below _ _ _ _ h refl)

  pub operation_some : 32 ≤ length b → Puts t (byte_text (get_or b 0 0)) most u → Puts t (operation_text b) most u
  unfolding operation_text
  operation_some h = put_as (not_below _ _ _ _ h refl)

-- a text refused, and written
module _ (out : Bytes) (at : ℕ) {r : Result (Unit {0}) Refusal} (e : r ≡ pick (leb (at + most_line) (length out)) (Ok tt) (Err Refusal.BufferTooShort)) where
  pub no_room : {why : Refusal} (line : Bytes) → r ≡ Err why
      → (Err why ≡ line_answer out at line) × (out ≡ line_buffer out at line)
  unfolding line_answer line_buffer pick
  no_room {why} line f = go (leb (at + most_line) (length out)) (sym f ∙ e)
    where
      go : (b : Bool) → Err why ≡ pick b (Ok (tt {0})) (Err Refusal.BufferTooShort)
          → (Err why ≡ pick b (Ok (length line)) (Err Refusal.BufferTooShort)) × (out ≡ pick b (placed out at line) out)
      go true g = let z : ◌≡◌ {A = ℕ} 0 1 = cc in absurd (omega arith)
      go false g = (cc, refl)

  pub room_left : {x : Unit {0}} → r ≡ Ok x → at + most_line ≤ length out
  unfolding pick
  room_left {x} f = go (leb (at + most_line) (length out)) refl (sym f ∙ e)
    where
      go : (b : Bool) → leb (at + most_line) (length out) ≡ b → Ok x ≡ pick b (Ok (tt {0})) (Err Refusal.BufferTooShort) → at + most_line ≤ length out
      go true h g = leb-true _ _ h
      go false h g = let z : ◌≡◌ {A = ℕ} 0 1 = cc in absurd (omega arith)

pub text_written : (t : Text) (text : Bytes) {u : Text} {most : ℕ} → t.end + most_line ≤ length t.out.now → Puts t text most u → most ≤ most_line
    → (Ok (u.end - t.end) ≡ line_answer t.out.now t.end text) × ((u.out.now ≡ line_buffer t.out.now t.end text) × Short (Ok (u.end - t.end)))
unfolding line_answer line_buffer
text_written t text {u = u} h w short =
    let f = w.ends in
    let k = w.few in
    let e : u.end - t.end ≡ length text = omega arith in
    (within _ _ _ _ h (ap Ok e), (within _ _ _ _ h w.bytes, omega arith))
