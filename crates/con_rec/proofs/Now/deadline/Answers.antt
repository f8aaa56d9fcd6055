-- `con_rec::Now::deadline` meets its contract: the sum fits 64 bits, or it does not.
use Rattle.std.specs.Option.{SomeIff}
use Rattle.std.specs.Prelude.{Option, Some, None}
use Prim.Native.Nat.{ℕ, ◌<◌}
use native.Mathlib.Omega.{arith}
use mathlib.Core.Path.{◌≡◌, refl, ap}
use lib.Dec.{leb}
use Rattle.laws.specs.Pick.{pick}
use Rattle.laws.proofs.Picks.{beyond, within}
use Rattle.con_rec.specs.Deadline.{deadline_of, latest}
use Rattle.con_rec.proofs.Now.deadline.Goals as goal

fits : (found : Option ℕ) (n : ℕ) → SomeIff found (n < 18446744073709551616) n → found ≡ pick (leb n latest) (Some n) None
fits None n late = beyond _ _ n latest (omega (arith, late)) refl
fits (Some m) n h = within _ _ n latest (omega arith) (ap Some h.1)

pub returns : goal.returns
unfolding deadline_of
returns c = fits c.checked_add.result _ (rw c.timeout_us.ensures at c.checked_add.ensures)
