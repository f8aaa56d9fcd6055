-- What holds of all elements of a list, and of the elements of two lists place by place: under a part, a change at one place, and one more
-- element.
use Prim.Native.Nat.{ℕ, zero, suc, ◌<◌}
use native.Mathlib.Omega.{arith}
use mathlib.Core.List.{List, [], ◌∷◌, ◌++◌}
use lib.ListN.{length, take, drop, get_or, set}
use Rattle.std.specs.Prelude.{All, AllPairs}
use Rattle.std.specs.List.{AllZip}
use Rattle.std.proofs.lemmas.List.Elements.{All-append, All-cons, All-drop, All-take, AllZip-get_or, length_all_zip}

module _ {A : Type 0} where
  module _ (P : A → Type 0) where
    pub all_insert : (l : List A) (k : ℕ) (x : A) → P x → All P l → All P (take k l ++ x ∷ drop k l)
    all_insert l k x p a =
        All-append P (take k l) (x ∷ drop k l) (All-take P k l a) (All-cons P x (drop k l) p (All-drop P k l a))

    pub all_each : (R : A → A → Type 0) → ((x y : A) → R x y → P x → P y) → (l k : List A) → AllZip R l k → All P l → All P k
    all_each R f l k e a i d h =
        let within : i < length l = omega (arith, length_all_zip R l k e) in
        f (get_or l i d) (get_or k i d) (AllZip-get_or R l k i d d e within) (a i d within)

  module _ (R : A → A → Type 0) where
    pub pairs_none : AllPairs R []
    pairs_none i j d h within = absurd (omega arith)

    pub pairs_head : (x : A) (l : List A) → AllPairs R (x ∷ l) → All (R x) l
    pairs_head x l a k d h = a 0 (suc k) d (omega arith) (omega arith)

    pub pairs_tail : (x : A) (l : List A) → AllPairs R (x ∷ l) → AllPairs R l
    pairs_tail x l a i j d h within = a (suc i) (suc j) d (omega arith) (omega arith)

  module _ (R : A → A → Type 0) (same : (x : A) → R x x) where
    pub each_same : (l : List A) → AllZip R l l
    each_same [] = tt
    each_same (x ∷ l) = (same x, each_same l)

    pub each_set : (l : List A) (k : ℕ) (d y : A) → R (get_or l k d) y → AllZip R l (set l k y)
    each_set [] k d y r = tt
    each_set (x ∷ l) zero d y r = (r, each_same l)
    each_set (x ∷ l) (suc k) d y r = (same x, each_set l k d y r)
