-- "Given exactly when" (document 01, "Numbers that refuse"). A function's checks are a list, in the order that they are made: each is a refusal and
-- the cause for which it is given. R is the type of refusals.
use Rattle.std.specs.Prelude.{◌≡◌, List, [], ◌∷◌, ◌⊎◌}

pub record Check (R : Type 0) : Type 1 where
  pub refusal : R
  pub cause : Type 0

abbrev pub check : {R : Type 0} → R → Type 0 → Check R
check r cause = record { refusal = r; cause = cause }

-- of checks made in this order, the first whose cause holds is that refusal's
abbrev pub First : {R : Type 0} → List (Check R) → R → Type 0
First [] r = ⊥
First (c ∷ l) r = (c.cause × (c.refusal ≡ r)) ⊎ ((c.cause → ⊥) × First l r)

-- no cause holds
abbrev pub NoneOf : {R : Type 0} → List (Check R) → Type 0
NoneOf [] = Unit {0}
NoneOf (c ∷ l) = (c.cause → ⊥) × NoneOf l

-- An answer refuses exactly when: it is a refusal's answer if, and only if, that refusal's is the first cause that holds. `refused` says what answer
-- a refusal gives.
abbrev pub Exactly : {R A : Type 0} → (R → A) → List (Check R) → A → Type 0
Exactly {R} refused checks answer = (r : R) → (answer ≡ refused r → First checks r) × (First checks r → answer ≡ refused r)
