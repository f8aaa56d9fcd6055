-- The readable entries lie in a DCF one behind another, each as `stored_as` has it: they and what stands behind them are the DCF from the first
-- of them on.
use Prim.Native.Nat.{ℕ, zero, suc, ◌+◌, ◌*◌, ◌/◌, ◌%◌, ◌<◌, ◌≤◌}
use native.Mathlib.Nat.{add-zero, mod-eq_of_lt}
use native.Mathlib.Omega.{arith}
use mathlib.Core.Path.{◌≡◌, refl, sym, ◌∙◌}
use mathlib.Core.Bool.{Bool, true, false}
use mathlib.Core.List.{List, [], ◌∷◌, ◌++◌, append_assoc}
use lib.Dec.{leb}
use lib.ListN.{length, get_or, take, drop, length-append, length-drop, take-append-drop}
use lib.Seq.{drop-cons, drop-drop, length-take-le}
use borrow.Author.Tests.{leb-true}
use Rattle.laws.specs.Pick.{pick}
use Rattle.codec.specs.Bytes.{Bytes, le32, le32_at}
use Rattle.codec.specs.Dcf.{behind, entries_from, entry_at, size_at}
use Rattle.codec_salvage.specs.Repair.{Octets}
use Rattle.codec_salvage.specs.Salvage.{stored, stored_as}

-- a number's bytes, of the number that bytes give
module _ (a b : ℕ) (f : a < 256) (g : b < 256) where
  two_again : ((a + b * 256) % 256 ≡ a) × ((a + b * 256) / 256 % 256 ≡ b)
  two_again = let x : (a + b * 256) / 256 ≡ b = omega arith in (omega arith, rw x (mod-eq_of_lt g))

module _ (a b c d : ℕ) (f : a < 256) (g : b < 256) (h : c < 256) (i : d < 256) where
  abbrev number : ℕ
  number = a + b * 256 + (c + d * 256) * 65536

  pub four_again : (number % 256 ≡ a) × (number / 256 % 256 ≡ b) × (number / 65536 % 256 ≡ c) × (number / 16777216 % 256 ≡ d)
  four_again =
      let x : number / 256 ≡ b + (c + d * 256) * 256 = omega arith in
      let y : number / 65536 ≡ c + d * 256 = omega arith in
      let z : number / 16777216 ≡ d = omega arith in
      (omega arith, rw x (omega arith), rw y (omega arith), rw z (mod-eq_of_lt i))

-- what stands at a place, a byte at a time
next : (b : Bytes) (at behind : ℕ) {rest : Bytes} → at < length b → suc at ≡ behind → drop behind b ≡ rest → drop at b ≡ get_or b at 0 ∷ rest
next b at behind h e f = drop-cons b at 0 h ∙ rw (e, f)

-- the number of the four bytes at a place, as bytes, and what is behind them
pub four_at : (b : Bytes) (at : ℕ) → Octets b → at + 4 ≤ length b → le32 (le32_at b at) ++ drop (at + 4) b ≡ drop at b
four_at b at o h =
    let n = four_again (get_or b at 0) (get_or b (at + 1) 0) (get_or b (at + 2) 0) (get_or b (at + 2 + 1) 0) (o _) (o _) (o _) (o _) in
    rw (n.0, n.1, n.2, n.3)
    (sym
    (next b at (at + 1) (omega arith) (omega arith)
    (next b (at + 1) (at + 2) (omega arith) (omega arith)
    (next b (at + 2) (at + 2 + 1) (omega arith) (omega arith)
    (next b (at + 2 + 1) (at + 4) (omega arith) (omega arith) refl)))))

-- an entry that is readable at a place: its 7 bytes and its data are what stands there
module _ (b : Bytes) (at : ℕ) (o : Octets b) (inside : behind b at ≤ length b) where
  pub data_length : length (take (size_at b at) (drop (at + 7) b)) ≡ size_at b at
  data_length = length-take-le (size_at b at) (drop (at + 7) b) (rw length-drop (omega arith))

  pub entry_lies : stored_as (entry_at b at) ++ drop (behind b at) b ≡ drop at b
  entry_lies =
      let i = two_again (get_or b at 0) (get_or b (at + 1) 0) (o _) (o _) in
      let rest : take (size_at b at) (drop (at + 7) b) ++ drop (behind b at) b ≡ drop (at + 7) b =
      rw (← drop-drop (size_at b at) (at + 7) b, take-append-drop) in
      let seven : at + 7 ≡ at + 3 + 4 = omega arith in
      let size : le32 (size_at b at) ++ drop (at + 7) b ≡ drop (at + 3) b = rw seven (four_at b (at + 3) o (omega arith)) in
      rw (i.0, i.1, data_length, rest, size)
      (sym
      (next b at (at + 1) (omega arith) (omega arith)
      (next b (at + 1) (at + 2) (omega arith) (omega arith) (next b (at + 2) (at + 3) (omega arith) (omega arith) refl))))

-- the readable entries from a place on, and what is behind them
pub all_lie : (left : ℕ) (b : Bytes) (at : ℕ) → Octets b
    → stored (entries_from left b at) ++ drop (at + length (stored (entries_from left b at))) b ≡ drop at b
unfolding pick
all_lie zero b at o = rw add-zero
all_lie (suc left) b at o = go (leb (at + 7) (length b)) (leb (behind b at) (length b)) refl (all_lie left b (behind b at) o)
  where
    rest : List Bytes
    rest = entries_from left b (behind b at)

    go : (p q : Bool) → leb (behind b at) (length b) ≡ q → stored rest ++ drop (behind b at + length (stored rest)) b ≡ drop (behind b at) b
        → let es : List Bytes = pick p (pick q (entry_at b at ∷ rest) []) [] in stored es ++ drop (at + length (stored es)) b ≡ drop at b
    go false q f more = rw add-zero
    go true false f more = rw add-zero
    go true true f more =
        let inside : behind b at ≤ length b = leb-true _ _ f in
        let n : at + length (stored_as (entry_at b at) ++ stored rest) ≡ behind b at + length (stored rest) =
        rw length-append (omega (arith, data_length b at o inside)) in
        rw (n, append_assoc (stored_as (entry_at b at)), more) (entry_lies b at o inside)
