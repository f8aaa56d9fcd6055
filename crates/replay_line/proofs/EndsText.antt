-- Ends put one by one: what a loop has put, and what is left of the ends.
use Prim.Native.Nat.{ℕ, ◌+◌, ◌-◌, ◌*◌, ◌≤◌, ◌<◌}
use native.Mathlib.Nat.{suc-sub-suc, sub-zero}
use native.Mathlib.Numerals.{add-one}
use native.Mathlib.Omega.{arith}
use mathlib.Core.Path.{◌≡◌, refl, sym, ap, ◌∙◌}
use mathlib.Core.List.{List, [], ◌∷◌, ◌++◌, append_assoc, append-nil}
use lib.ListN.{length, take, drop, get_or}
use lib.Seq.{drop-cons, drop-length, take_all}
use Rattle.codec.specs.Bytes.{Bytes}
use Rattle.replay_line.specs.Line.{comma, end_text, ends_text, further_ends}
use Rattle.replay_line.specs.Text.{Puts}
use Rattle.replay_line.specs.Types.{End}
use Rattle.replay_line.specs.declared.text.Text.{Text}
use Rattle.replay_line.proofs.PutText.{put_none, put_within, puts}

-- the further ends ahead of the i-th are put, at most 17 bytes each with the comma before it
pub record Ending (t : Text) (l : List End) (u : Text) (i : ℕ) : Type 0 where
  pub done : Bytes
  pub put : Puts t done (17 * i) u
  pub whole : done ++ further_ends (drop i l) ≡ further_ends l

pub ending_none : (t : Text) (l : List End) → t.end ≤ length t.out.now → Ending t l t 0
ending_none t l h = record { done = []; put = put_none t h; whole = refl }

pub ending_more : {t u m v : Text} {l : List End} {i : ℕ} (d : End) → Ending t l u i → i < length l
    → Puts u (comma ∷ []) 1 m → Puts m (end_text (get_or l i d)) 16 v → Ending t l v (i + 1)
ending_more {l = l} {i = i} d g h p q =
    let a = (comma ∷ []) ++ end_text (get_or l i d) in
    let e : further_ends (drop i l) ≡ a ++ further_ends (drop (i + 1) l) = rw (drop-cons l i d h, add-one) in
    record {
      done = g.done ++ a;
      put = put_within (17 * (i + 1)) (omega arith) (puts g.put (puts p q));
      whole = append_assoc g.done a (further_ends (drop (i + 1) l)) ∙ ap (λ x. g.done ++ x) (sym e) ∙ g.whole;
    }

pub ending_all : {t u : Text} {l : List End} {i : ℕ} → Ending t l u i → i ≡ length l → Puts t (further_ends l) (17 * length l) u
ending_all {l = l} {i = i} g e =
    let f : drop i l ≡ [] = rw e (drop-length l) in
    let d : g.done ≡ further_ends l = sym (append-nil g.done) ∙ ap (λ x. g.done ++ further_ends x) (sym f) ∙ g.whole in
    rw (← d, ← e) g.put

-- the first end, and the further ones behind it
pub first_end : (d : End) (l : List End) → 0 < length l → end_text (get_or l 0 d) ++ further_ends (take (length l - 1) (drop 1 l)) ≡ ends_text l
first_end d [] h = absurd (omega arith)
first_end d (e ∷ l) h = rw (suc-sub-suc, sub-zero, take_all (length l) l (omega arith))
