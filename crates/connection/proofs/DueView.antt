-- A deadline to be set fits, or not.
use Rattle.std.specs.Prelude.{Option, Some, None}
use Prim.Native.Nat.{ℕ, ◌≤◌, ◌<◌}
use lib.Dec.{leb}
use borrow.Author.Tests.{leb-false, leb-true}
use Rattle.laws.proofs.Choices.{decided}
use Rattle.con_rec.specs.Deadline.{deadline_of, due, latest}
use Rattle.connection.specs.Types.{Now}

abbrev pub due_at : Now → ℕ
due_at n = due n.time n.timeout

pub timed : {A : Type 0} (n : Now) (f : Option ℕ → A) (P : A → Type 0) → (due_at n ≤ latest → P (f (Some (due_at n))))
    → (latest < due_at n → P (f None)) → P (f (deadline_of n.time n.timeout))
unfolding deadline_of
timed n f P fits late =
    decided (λ (m : Option ℕ). P (f m)) (leb (due_at n) latest) _ _ (λ h. fits (leb-true _ _ h)) (λ h. late (leb-false _ _ h))
