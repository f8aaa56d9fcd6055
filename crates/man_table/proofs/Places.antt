-- A place that is found is one of those held, and the array has the same connection there.
use Rattle.std.specs.Prelude.{Option, Some, None}
use Prim.Native.Nat.{ℕ, suc, ◌<◌}
use native.Mathlib.Omega.{arith}
use mathlib.Core.Path.{◌≡◌, sym}
use mathlib.Core.Bool.{Bool, true, false}
use mathlib.Core.List.{List, [], ◌∷◌}
use lib.Dec.{eqb}
use lib.ListN.{length, length-take}
use lib.Seq.{get_or-take}
use Rattle.laws.specs.Pick.{pick}
use Rattle.man_table.specs.Resting.{due_in, rests_of}
use Rattle.man_table.specs.Table.{blank, connection_at, find_in, held_at, live, one_further}
use Rattle.man_table.specs.Types.{Now, SdoClientConnection, SdoClientManager, Turn}

abbrev pub Within : ℕ → Option ℕ → Type 0
Within n None = Unit
Within n (Some k) = k < n

further : (n : ℕ) (f : Option ℕ) → Within n f → Within (suc n) (one_further f)
further n None h = tt
further n (Some k) h = omega arith

either : (n : ℕ) (b : Bool) (f g : Option ℕ) → Within n f → Within n g → Within n (pick b f g)
unfolding pick
either n true f g h k = h
either n false f g h k = k

find_within : (node : ℕ) (l : List SdoClientConnection) → Within (length l) (find_in node l)
find_within node [] = tt
find_within node (c ∷ l) = either (suc (length l)) (eqb c.target_node_id node) (Some 0) (one_further (find_in node l)) (omega arith) (further (length l) (find_in node l) (find_within node l))

pub due_within : (t : Turn) (n : Now) (l : List SdoClientConnection) → Within (length l) (due_in t n l)
due_within t n [] = tt
due_within t n (c ∷ l) = either (suc (length l)) (rests_of t c n) (one_further (due_in t n l)) (Some 0) (further (length l) (due_in t n l) (due_within t n l)) (omega arith)

within_held : (m : SdoClientManager) (k : ℕ) → k < length (live m) → connection_at m k ≡ held_at m k
within_held m k h = let e = length-take m.count m.connections in sym (get_or-take m.count m.connections k blank (omega arith))

module _ (m : SdoClientManager) (k : ℕ) (f : Option ℕ) where
  held_by : (g : Option ℕ) → f ≡ g → f ≡ Some k → Within (length (live m)) g → connection_at m k ≡ held_at m k
  held_by None e h w = let z : ◌≡◌ {A = ℕ} 0 1 = cc (e, h) in absurd (omega arith)
  held_by (Some j) e h w = let same : j ≡ k = cc (e, h) in within_held m k (rw (sym same) w)

  pub found_held : (node : ℕ) → f ≡ find_in node (live m) → f ≡ Some k → connection_at m k ≡ held_at m k
  found_held node e h = held_by (find_in node (live m)) e h (find_within node (live m))

  pub due_held : (t : Turn) (n : Now) → f ≡ due_in t n (live m) → f ≡ Some k → connection_at m k ≡ held_at m k
  due_held t n e h = held_by (due_in t n (live m)) e h (due_within t n (live m))
