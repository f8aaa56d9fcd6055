-- Text put piece by piece is put whole.
use Prim.Native.Nat.{ℕ, suc, ◌+◌, ◌≤◌}
use native.Mathlib.Nat.{add-zero}
use native.Mathlib.Numerals.{add-one}
use native.Mathlib.Omega.{arith}
use mathlib.Core.Path.{◌≡◌, refl, sym, ap, ◌∙◌}
use mathlib.Core.List.{[], ◌∷◌, ◌++◌, append_assoc, append-nil}
use lib.ListN.{length, take, drop, set, length-append, take-append-drop}
use lib.Seq.{append_snoc, drop_at, drop-drop, length-take-le, set_split, take_at}
use Rattle.codec.specs.Bytes.{Bytes, placed}
use Rattle.replay_line.specs.Text.{Puts}
use Rattle.replay_line.specs.declared.text.Text.{Text}

-- a byte stored is a byte put
pub stored : (out : Bytes) (at b : ℕ) → at + 1 ≤ length out → set out at b ≡ placed out at (b ∷ [])
unfolding placed
stored out at b h = rw (add-one at, append_snoc (take at out) b (drop (suc at) out)) (set_split out at b (omega arith))

-- nothing put
pub put_none : (t : Text) → t.end ≤ length t.out.now → Puts t [] 0 t
unfolding placed
put_none t h =
    record {
      same_buffer = refl;
      bytes = rw (append-nil (take t.end t.out.now), add-zero) (sym (take-append-drop t.end t.out.now));
      ends = omega arith;
      few = omega arith;
      fits = omega arith;
      long = refl;
    }

-- a text by another name, or of more bytes at most
pub put_as : {t u : Text} {text other : Bytes} {most : ℕ} → text ≡ other → Puts t text most u → Puts t other most u
put_as e p = rw (← e) p

pub put_within : {t u : Text} {text : Bytes} {most : ℕ} (more : ℕ) → most ≤ more → Puts t text most u → Puts t text more u
put_within more h p =
    let k = p.few in
    record { same_buffer = p.same_buffer; bytes = p.bytes; ends = p.ends; few = omega arith; fits = p.fits; long = p.long }

-- one text put right behind another
placed_behind : (out : Bytes) (at : ℕ) (a b : Bytes) → at + length a ≤ length out
    → placed (placed out at a) (at + length a) b ≡ placed out at (a ++ b)
unfolding placed
placed_behind out at a b h =
    let n = at + length a in
    let xs = take at out ++ a in
    let e : length xs ≡ n = rw (length-append, length-take-le at out (omega arith)) in
    let t : take n (xs ++ drop n out) ≡ xs = take_at xs (drop n out) n e in
    let u : drop (n + length b) (xs ++ drop n out) ≡ drop (n + length b) out =
    sym (drop-drop (length b) n (xs ++ drop n out)) ∙ ap (drop (length b)) (drop_at xs (drop n out) n e) ∙ drop-drop (length b) n out in
    let k : at + length (a ++ b) ≡ n + length b = rw length-append (omega arith) in
    rw (t, u, k, append_assoc (take at out) a b)

pub puts : {t m u : Text} {a b : Bytes} {j k : ℕ} → Puts t a j m → Puts m b k u → Puts t (a ++ b) (j + k) u
puts {t} {m} {u} {a} {b} p q =
    let e = p.ends in
    let f = q.ends in
    let i = p.few in
    let l = q.few in
    let x = q.fits in
    let y = p.long in
    record {
      same_buffer = q.same_buffer ∙ p.same_buffer;
      bytes = q.bytes ∙ rw (p.bytes, p.ends) (placed_behind t.out.now t.end a b p.fits);
      ends = rw length-append (omega arith);
      few = rw length-append (omega arith);
      fits = rw length-append (omega arith);
      long = q.long ∙ p.long;
    }
