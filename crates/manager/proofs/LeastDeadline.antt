-- The least deadline: the least of those that there are.
use Rattle.std.proofs.Common.{◌≡◌, ℕ, List, [], ◌∷◌, Option, Some, None, refl, ap, ◌∙◌, arith}
use Prim.Native.Nat.{min}
use Rattle.std.specs.Option.{option_map}
use Rattle.std.specs.List.{filter_map, cons_option, fold, reduce}
use Rattle.manager.specs.Calls.{least_deadline, sooner}
use Rattle.manager.specs.Types.{SdoClientConnection}

abbrev pub deadlines : List SdoClientConnection → List ℕ
deadlines = filter_map (λ (c : SdoClientConnection). c.waiting.deadline)

sooner_of_three : (x y : ℕ) (d : Option ℕ) → sooner (Some (min x y)) d ≡ sooner (Some x) (sooner (Some y) d)
sooner_of_three x y None = refl
sooner_of_three x y (Some z) = let e : min (min x y) z ≡ min x (min y z) = omega arith in ap Some e

least_from : (x : ℕ) (l : List SdoClientConnection) → Some (fold min x (deadlines l)) ≡ sooner (Some x) (least_deadline l)
least_from x [] = refl
least_from x (c ∷ l) = go c.waiting.deadline (λ y. least_from y l)
  where
    go : (d : Option ℕ) → ((y : ℕ) → Some (fold min y (deadlines l)) ≡ sooner (Some y) (least_deadline l))
        → Some (fold min x (cons_option d (deadlines l))) ≡ sooner (Some x) (sooner d (least_deadline l))
    go None h = h x
    go (Some y) h = h (min x y) ∙ sooner_of_three x y (least_deadline l)

pub least_of : (l : List SdoClientConnection) → reduce min (deadlines l) ≡ least_deadline l
least_of [] = refl
least_of (c ∷ l) = go c.waiting.deadline (least_of l)
  where
    go : (d : Option ℕ) → reduce min (deadlines l) ≡ least_deadline l → reduce min (cons_option d (deadlines l)) ≡ sooner d (least_deadline l)
    go None h = h
    go (Some x) h = least_from x l

pub unchanged : (d : Option ℕ) → d ≡ option_map (λ (x : ℕ). x) d
unchanged None = refl
unchanged (Some x) = refl
