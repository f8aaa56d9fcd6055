-- The free room of a table: it is a room, and where fewer than eight are held it is nobody's.
use Rattle.std.specs.Prelude.{All}
use Prim.Native.Nat.{ℕ, zero, suc, ◌+◌, ◌*◌, ◌≤◌, ◌<◌}
use native.Mathlib.Omega.{arith}
use mathlib.Core.Path.{◌≡◌, refl}
use mathlib.Core.Bool.{Bool, true, false}
use mathlib.Core.List.{List, [], ◌∷◌}
use lib.Dec.{eqb}
use lib.ListN.{length}
use borrow.Author.Tests.{eqb-true, eqb-false, ne_eqb}
use Rattle.std.proofs.lemmas.List.Elements.{All-cons, All-nil}
use Rattle.laws.specs.Pick.{pick}
use Rattle.laws.proofs.Choices.{either}
use Rattle.man_table.specs.Table.{free_from, free_room, room_size, uses_room}
use Rattle.theorems.specs.Types.{SdoClientConnection as Connection}
use Rattle.theorems.proofs.Rooms.{Slotted}

-- ---- it is a room
slotted_from : (left k : ℕ) (l : List Connection) → k + left ≡ 8 → Slotted (free_from left k l)
slotted_from zero k l e = (refl, omega arith)
slotted_from (suc left) k l e =
    either Slotted (uses_room (k * room_size) l) _ _ (slotted_from left (suc k) l (omega arith)) (omega arith, omega arith)

pub free_slotted : (l : List Connection) → Slotted (free_room l)
unfolding free_room
free_slotted l = slotted_from 8 0 l refl

-- ---- a room that is not used is nobody's
abbrev pub OtherRoom : ℕ → Connection → Type 0
OtherRoom room c = c.room ≡ room → ⊥

abbrev pub Nobodys : ℕ → List Connection → Type 0
Nobodys room l = All (OtherRoom room) l

nobodys : (room : ℕ) (l : List Connection) → uses_room room l ≡ false → Nobodys room l
unfolding pick
nobodys room [] e = All-nil (OtherRoom room)
nobodys room (c ∷ l) e = go (eqb c.room room) refl e (nobodys room l)
  where
    go : (b : Bool) → eqb c.room room ≡ b → pick b true (uses_room room l) ≡ false
        → (uses_room room l ≡ false → Nobodys room l) → Nobodys room (c ∷ l)
    go true h u r = cc
    go false h u r = All-cons (OtherRoom room) c l (eqb-false c.room room h) (r u)

-- ---- how many of some rooms are used: no more than connections are held
abbrev one : Bool → ℕ
one true = 1
one false = 0

abbrev ones : ℕ → ℕ → ℕ → ℕ
ones zero k room = 0
ones (suc left) k room = one (eqb room (k * room_size)) + ones left (suc k) room

abbrev used : ℕ → ℕ → List Connection → ℕ
used zero k l = 0
used (suc left) k l = one (uses_room (k * room_size) l) + used left (suc k) l

none_above : (left k room : ℕ) → room < k * room_size → ones left k room ≡ 0
none_above zero k room h = refl
none_above (suc left) k room h = rw (ne_eqb room (k * room_size) (λ e. omega arith), none_above left (suc k) room (omega arith))

one_at_most : (left k room : ℕ) → ones left k room ≤ 1
one_at_most zero k room = omega arith
one_at_most (suc left) k room = go (eqb room (k * room_size)) refl (one_at_most left (suc k) room)
  where
    go : (b : Bool) → eqb room (k * room_size) ≡ b → ones left (suc k) room ≤ 1 → one b + ones left (suc k) room ≤ 1
    go true e r =
        let same : room ≡ k * room_size = eqb-true room (k * room_size) e in
        omega (arith, none_above left (suc k) room (omega arith))
    go false e r = omega arith

pick_sum : (a b : Bool) → one (pick a true b) ≤ one a + one b
unfolding pick
pick_sum true b = omega arith
pick_sum false b = omega arith

used_cons : (left k : ℕ) (c : Connection) (l : List Connection) → used left k (c ∷ l) ≤ ones left k c.room + used left k l
used_cons zero k c l = omega arith
used_cons (suc left) k c l =
    omega (arith, pick_sum (eqb c.room (k * room_size)) (uses_room (k * room_size) l), used_cons left (suc k) c l)

used_nil : (left k : ℕ) → used left k [] ≡ 0
used_nil zero k = refl
used_nil (suc left) k = rw (used_nil left (suc k))

used_few : (left k : ℕ) (l : List Connection) → used left k l ≤ length l
used_few left k [] = omega (arith, used_nil left k)
used_few left k (c ∷ l) = omega (arith, used_cons left k c l, one_at_most left k c.room, used_few left k l)

-- where not all are used, the one found is not
unused_from : (left k : ℕ) (l : List Connection) → used left k l < left → uses_room (free_from left k l) l ≡ false
unfolding pick
unused_from zero k l h = absurd (omega arith)
unused_from (suc left) k l h = go (uses_room (k * room_size) l) refl h (unused_from left (suc k) l)
  where
    go : (b : Bool) → uses_room (k * room_size) l ≡ b → one b + used left (suc k) l < suc left
        → (used left (suc k) l < left → uses_room (free_from left (suc k) l) l ≡ false)
        → uses_room (pick b (free_from left (suc k) l) (k * room_size)) l ≡ false
    go true e h r = r (omega arith)
    go false e h r = e

pub free_nobodys : (l : List Connection) → length l < 8 → Nobodys (free_room l) l
unfolding free_room
free_nobodys l h = nobodys (free_from 8 0 l) l (unused_from 8 0 l (omega (arith, used_few 8 0 l)))
