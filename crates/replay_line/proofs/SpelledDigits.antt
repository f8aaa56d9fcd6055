-- Numbers and bytes spelled digit by digit: what a loop has put, and what is left of the text.
use Prim.Native.Nat.{ℕ, zero, suc, ◌+◌, ◌-◌, ◌*◌, ◌/◌, ◌%◌, ◌≤◌, ◌<◌}
use native.Mathlib.Nat.{suc-sub-suc, sub-zero}
use native.Mathlib.Numerals.{add-one}
use native.Mathlib.Omega.{arith}
use mathlib.Core.Path.{◌≡◌, refl, sym, ap, ◌∙◌}
use mathlib.Core.List.{[], ◌∷◌, ◌++◌, append_assoc, append-nil}
use lib.ListN.{length, drop, get_or}
use lib.Seq.{drop-cons, drop-length}
use borrow.Author.Tests.{lt-ltb, le-ltb}
use Rattle.laws.specs.Pick.{pick}
use Rattle.codec.specs.Bytes.{Bytes}
use Rattle.replay_line.specs.Text.{Puts, decimal, digit, front, hex, hex_digits, power}
use Rattle.replay_line.specs.declared.text.Text.{Text}
use Rattle.replay_line.proofs.PutText.{put_none, put_within, puts}

pub power_positive : (k : ℕ) → 0 < power k
unfolding power
power_positive zero = omega arith
power_positive (suc k) = let h = power_positive k in omega arith

-- the powers that the digits of a u32 have
pub powers : (k : ℕ) → k < 10 → get_or (1 ∷ 10 ∷ 100 ∷ 1000 ∷ 10000 ∷ 100000 ∷ 1000000 ∷ 10000000 ∷ 100000000 ∷ 1000000000 ∷ []) k 0 ≡ power k
unfolding power
powers zero h = refl
powers (suc zero) h = refl
powers (suc (suc zero)) h = refl
powers (suc (suc (suc zero))) h = refl
powers (suc (suc (suc (suc zero)))) h = refl
powers (suc (suc (suc (suc (suc zero))))) h = refl
powers (suc (suc (suc (suc (suc (suc zero)))))) h = refl
powers (suc (suc (suc (suc (suc (suc (suc zero))))))) h = refl
powers (suc (suc (suc (suc (suc (suc (suc (suc zero)))))))) h = refl
powers (suc (suc (suc (suc (suc (suc (suc (suc (suc zero))))))))) h = refl
powers (suc (suc (suc (suc (suc (suc (suc (suc (suc (suc k)))))))))) h = absurd (omega arith)

-- the digit at a power, where the number reaches it
front_skip : (k n : ℕ) → 0 < k → n < power k → front k n ≡ front (k - 1) n
unfolding front pick
front_skip zero n h l = absurd (omega arith)
front_skip (suc k) n h l = rw (lt-ltb n (power (suc k)) l, suc-sub-suc, sub-zero)

front_digit : (k n : ℕ) → 0 < k → power k ≤ n → front k n ≡ (digit (n / power k % 10) ∷ []) ++ front (k - 1) n
unfolding front pick
front_digit zero n h l = absurd (omega arith)
front_digit (suc k) n h l = rw (le-ltb n (power (suc k)) l, suc-sub-suc, sub-zero)

-- a number of one digit has none before it
pub front_single : (k n : ℕ) → n < 10 → front k n ≡ []
unfolding front power
front_single zero n h = refl
front_single (suc k) n h =
    let p = power_positive k in
    front_skip (suc k) n (omega arith) (omega arith) ∙ rw (suc-sub-suc, sub-zero) (front_single k n h)

-- what of a number's front is put, and what is left from place k down
pub record Spelled (t : Text) (n places : ℕ) (u : Text) (i : ℕ) : Type 0 where
  pub done : Bytes
  pub put : Puts t done i u
  pub whole : done ++ front (places - i) n ≡ front places n

pub spelled_none : (t : Text) (n places : ℕ) → t.end ≤ length t.out.now → Spelled t n places t 0
spelled_none t n places h = record { done = []; put = put_none t h; whole = rw sub-zero }

module _ {t u : Text} {n places i p : ℕ} (s : Spelled t n places u i) (h : i < places) (e : p ≡ power (places - i)) where
  below : places - i - 1 ≡ places - (i + 1)
  below = omega arith

  pub spelled_skip : n < p → Spelled t n places u (i + 1)
  spelled_skip l =
      record {
        done = s.done;
        put = put_within (i + 1) (omega arith) s.put;
        whole = ap (λ x. s.done ++ x) (sym (front_skip (places - i) n (omega arith) (rw (← e) l) ∙ ap (λ k. front k n) below)) ∙ s.whole;
      }

  pub spelled_digit : {v : Text} {d : ℕ} → p ≤ n → d ≡ digit (n / p % 10) → Puts u (d ∷ []) 1 v → Spelled t n places v (i + 1)
  spelled_digit {v} {d} l f q =
      let g : front (places - i) n ≡ (d ∷ []) ++ front (places - (i + 1)) n =
      rw (f, e) (front_digit (places - i) n (omega arith) (rw (← e) l) ∙ ap (λ k. (digit (n / power (places - i) % 10) ∷ []) ++ front k n) below) in
      record {
        done = s.done ++ (d ∷ []);
        put = puts s.put q;
        whole = append_assoc s.done (d ∷ []) (front (places - (i + 1)) n) ∙ ap (λ x. s.done ++ x) (sym g) ∙ s.whole;
      }

front_none : (k n : ℕ) → k ≡ 0 → front k n ≡ []
unfolding front
front_none zero n e = refl
front_none (suc k) n e = absurd (omega arith)

pub spelled_all : {t u : Text} {n places i : ℕ} → Spelled t n places u i → i ≡ places → Puts t (front places n) places u
spelled_all {n = n} {places = places} {i = i} s e =
    let w : s.done ≡ front places n =
    sym (append-nil s.done) ∙ ap (λ x. s.done ++ x) (sym (front_none (places - i) n (omega arith))) ∙ s.whole in
    rw (← w, ← e) s.put

-- the last digit behind the others
pub last_digit : {t m u : Text} {places d : ℕ} (n : ℕ) → Puts t (front places n) places m → d ≡ digit (n % 10) → Puts m (d ∷ []) 1 u
    → Puts t (decimal places n) (places + 1) u
unfolding decimal
last_digit n p e q = rw (← e) (puts p q)

-- a number of one digit is put by that digit alone
pub one_digit : {t u : Text} {d : ℕ} (places n : ℕ) → n < 10 → d ≡ digit (n % 10) → Puts t (d ∷ []) 1 u
    → Puts t (decimal places n) (places + 1) u
unfolding decimal
one_digit places n h e q = rw (front_single places n h, ← e) (put_within (places + 1) (omega arith) q)

-- what of some bytes is put in hex, and what is left
pub record Hexed (t : Text) (bytes : Bytes) (u : Text) (i : ℕ) : Type 0 where
  pub done : Bytes
  pub put : Puts t done (2 * i) u
  pub whole : done ++ hex (drop i bytes) ≡ hex bytes

pub hexed_none : (t : Text) (bytes : Bytes) → t.end ≤ length t.out.now → Hexed t bytes t 0
hexed_none t bytes h = record { done = []; put = put_none t h; whole = refl }

hex_step : (bytes : Bytes) (i : ℕ) → i < length bytes
    → hex (drop i bytes) ≡ (get_or hex_digits (get_or bytes i 0 / 16) 0 ∷ []) ++ (get_or hex_digits (get_or bytes i 0 % 16) 0 ∷ []) ++ hex (drop (i + 1) bytes)
unfolding hex
hex_step bytes i h = rw (drop-cons bytes i 0 h, add-one)

hex_seam : (d : Bytes) (a b : ℕ) (rest : Bytes)
    → d ++ (a ∷ []) ++ (b ∷ []) ++ rest ≡ d ++ ((a ∷ []) ++ (b ∷ []) ++ rest)
hex_seam d a b rest = rw (append_assoc (d ++ (a ∷ [])) (b ∷ []) rest, append_assoc d (a ∷ []) ((b ∷ []) ++ rest))

pub hexed_more : {t u m v : Text} {bytes : Bytes} {i a b : ℕ} → Hexed t bytes u i → i < length bytes
    → a ≡ get_or hex_digits (get_or bytes i 0 / 16) 0 → b ≡ get_or hex_digits (get_or bytes i 0 % 16) 0
    → Puts u (a ∷ []) 1 m → Puts m (b ∷ []) 1 v → Hexed t bytes v (i + 1)
hexed_more {bytes = bytes} {i = i} {a = a} {b = b} s h ea eb p q =
    let e : hex (drop i bytes) ≡ (a ∷ []) ++ (b ∷ []) ++ hex (drop (i + 1) bytes) = rw (ea, eb) (hex_step bytes i h) in
    record {
      done = s.done ++ (a ∷ []) ++ (b ∷ []);
      put = put_within (2 * (i + 1)) (omega arith) (puts (puts s.put p) q);
      whole = hex_seam s.done a b (hex (drop (i + 1) bytes)) ∙ ap (λ x. s.done ++ x) (sym e) ∙ s.whole;
    }

pub hexed_all : {t u : Text} {bytes : Bytes} {i : ℕ} → Hexed t bytes u i → i ≡ length bytes → Puts t (hex bytes) (2 * length bytes) u
unfolding hex
hexed_all {bytes = bytes} {i = i} s e =
    let g : drop i bytes ≡ [] = rw e (drop-length bytes) in
    let d : s.done ≡ hex bytes = sym (append-nil s.done) ∙ ap (λ x. s.done ++ hex x) (sym g) ∙ s.whole in
    rw (← d, ← e) s.put

-- bytes in hex, one part behind the other
pub hex_append : (a b : Bytes) → hex a ++ hex b ≡ hex (a ++ b)
unfolding hex
hex_append [] b = refl
hex_append (x ∷ a) b = ap (λ l. get_or hex_digits (x / 16) 0 ∷ get_or hex_digits (x % 16) 0 ∷ l) (hex_append a b)
