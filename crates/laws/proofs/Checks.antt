-- An answer that goes by its checks, made in order, refuses exactly when the first cause that holds is that refusal's.
use Rattle.std.specs.Prelude.{Result, Ok, Err}
use Prim.Native.Nat.{ℕ, ◌<◌, ◌≤◌}
use native.Mathlib.Omega.{arith}
use mathlib.Core.Path.{◌≡◌, refl, sym, ◌∙◌, ap}
use mathlib.Core.Bool.{Bool, true, false}
use mathlib.Core.List.{List, [], ◌∷◌, ◌++◌}
use mathlib.Core.Logic.{◌⊎◌, inl, inr}
use lib.Dec.{leb, ltb}
use borrow.Author.Tests.{leb-true, leb-false, ltb-true, ltb-false}
use Rattle.laws.specs.Checks.{Check, Exactly, First, NoneOf, check}
use Rattle.laws.specs.Pick.{pick}
use Rattle.laws.proofs.Choices.{decided}

-- an answer that is no refusal's
abbrev pub Otherwise : {R A : Type 0} → (R → A) → A → Type 0
Otherwise {R} refused x = (r : R) → x ≡ refused r → ⊥

-- `refused` is the answer of a refusal, and Unrefused says of an answer that it refuses nothing
module _ {R A : Type 0} (refused : R → A) (Unrefused : A → Type 0) where
  -- checks made in order: the first cause that holds gives its refusal, and where none holds nothing is refused
  abbrev pub Answers : List (Check R) → A → Type 0
  Answers [] x = Unrefused x
  Answers (c ∷ l) x = (c.cause × (x ≡ refused c.refusal)) ⊎ ((c.cause → ⊥) × Answers l x)

  -- a test that refuses is a check
  module _ {r : R} (l : List (Check R)) (y : A) where
    pub refuses_if : {cause : Type 0} (b : Bool) → (b ≡ true → cause) → (b ≡ false → cause → ⊥) → (b ≡ false → Answers l y)
        → Answers (check r cause ∷ l) (pick b (refused r) y)
    refuses_if {cause} b f g h = decided (Answers (check r cause ∷ l)) b _ y (λ e. inl (f e, refl)) (λ e. inr (g e, h e))

    pub refuses_unless : {cause : Type 0} (b : Bool) → (b ≡ false → cause) → (b ≡ true → cause → ⊥) → (b ≡ true → Answers l y)
        → Answers (check r cause ∷ l) (pick b y (refused r))
    refuses_unless {cause} b f g h = decided (Answers (check r cause ∷ l)) b y _ (λ e. inr (g e, h e)) (λ e. inl (f e, refl))

    pub refuses_below : (n m : ℕ) → (m ≤ n → Answers l y) → Answers (check r (n < m) ∷ l) (pick (ltb n m) (refused r) y)
    refuses_below n m h =
        refuses_if (ltb n m) (ltb-true n m) (λ e z. let k : m ≤ n = ltb-false n m e in omega arith) (λ e. h (ltb-false n m e))

    pub refuses_beyond : (n m : ℕ) → (n ≤ m → Answers l y) → Answers (check r (m < n) ∷ l) (pick (leb n m) y (refused r))
    refuses_beyond n m h =
        refuses_unless (leb n m) (leb-false n m) (λ e z. let k : n ≤ m = leb-true n m e in omega arith) (λ e. h (leb-true n m e))

  -- it refuses exactly when: where two refusals never have one answer, and none is the answer of a refusal
  module _ (never : (r : R) → Unrefused (refused r) → ⊥) where
    pub exactly : ((r s : R) → refused r ≡ refused s → r ≡ s) → (l : List (Check R)) (x : A) → Answers l x → Exactly refused l x
    exactly same [] x a r = (λ e. absurd (never r (rw e at a)), λ h. absurd h)
    exactly same (c ∷ l) x (inl a) r = (λ e. inl (a.0, same _ _ (sym a.1 ∙ e)), back)
      where
        back : First (c ∷ l) r → x ≡ refused r
        back (inl h) = a.1 ∙ ap refused h.1
        back (inr h) = absurd (h.0 a.0)
    exactly same (c ∷ l) x (inr a) r =
        let rest = exactly same l x a.1 r in (λ e. inr (a.0, rest.0 e), back rest.1)
      where
        back : (First l r → x ≡ refused r) → First (c ∷ l) r → x ≡ refused r
        back rest (inl h) = absurd (a.0 h.0)
        back rest (inr h) = rest h.1

    -- and nothing is refused exactly when no cause holds
    pub unrefused : (l : List (Check R)) (x : A) → Answers l x → (Unrefused x → NoneOf l) × (NoneOf l → Unrefused x)
    unrefused [] x a = (λ u. tt, λ n. a)
    unrefused (c ∷ l) x (inl a) = (λ u. absurd (never c.refusal (rw a.1 at u)), λ n. absurd (n.0 a.0))
    unrefused (c ∷ l) x (inr a) =
        let rest = unrefused l x a.1 in (λ u. (a.0, rest.0 u), λ n. rest.1 n.1)

-- An answer that is a `Result` refuses by `Err`: `Ok` is no refusal's, and no two refusals have one `Err`.
module _ {R T : Type 0} where
  pub ok_otherwise : (x : T) → Otherwise {R = R} {A = Result T R} Err (Ok x)
  ok_otherwise x r e = cc

  abbrev pub Goes : List (Check R) → Result T R → Type 0
  Goes = Answers Err (Otherwise Err)

  pub goes_exactly : (l : List (Check R)) (x : Result T R) → Goes l x → Exactly Err l x
  goes_exactly = exactly Err (Otherwise Err) (λ r h. h r refl) (λ r s e. cc)

-- what is told of an answer goes by the answer's checks, and then by more
pub told_by_lem : {R A B : Type 0} (refused : R → A) (Unrefused : A → Type 0) (refused' : R → B) (Unrefused' : B → Type 0) (tell : A → B)
    → ((r : R) → tell (refused r) ≡ refused' r)
    → (l more : List (Check R)) (x : A) → (Unrefused x → Answers refused' Unrefused' more (tell x))
    → Answers refused Unrefused l x → Answers refused' Unrefused' (l ++ more) (tell x)
told_by_lem refused U refused' U' tell same [] more x last a = last a
told_by_lem refused U refused' U' tell same (c ∷ l) more x last (inl a) = inl (a.0, ap tell a.1 ∙ same c.refusal)
told_by_lem refused U refused' U' tell same (c ∷ l) more x last (inr a) =
    inr (a.0, told_by_lem refused U refused' U' tell same l more x last a.1)
