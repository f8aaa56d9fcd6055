-- Rooms of the store: each starts at a multiple of 4,096 up to 28,672; what is put in one leaves the others as they were.
use Prim.Native.Nat.{ℕ, ◌+◌, ◌≤◌, ◌<◌, min}
use native.Mathlib.Omega.{arith}
use mathlib.Core.Path.{◌≡◌, refl, sym, ◌∙◌, ap}
use mathlib.Core.Bool.{Bool, true, false}
use mathlib.Core.List.{◌++◌, append_assoc}
use lib.Dec.{ltb}
use lib.ListN.{length, take, drop, length-append, length-take, length-drop}
use lib.Seq.{length-take-le, take-append-le, drop_at, take-append_seam}
use borrow.Author.Tests.{ltb-true, ltb-false}
use Rattle.std.proofs.lemmas.List.{drop-take, take-take}
use Rattle.std.proofs.lemmas.Slice.{drop-append-drop}
use Rattle.codec.specs.Bytes.{Bytes, placed}
use Rattle.codec.proofs.WrittenBytes.{placed_length}
use Rattle.man_table.specs.Table.{last_room, room_size, store_size}
pub use Rattle.theorems.specs.Sound.{Slotted}

-- the bytes of the room that starts there
abbrev pub room_at : Bytes → ℕ → Bytes
room_at store at = take room_size (drop (min at last_room) store)

-- the store with other bytes in that room
abbrev pub put_at : Bytes → ℕ → Bytes → Bytes
put_at store at room = placed store (min at last_room) room

-- what lies before the place
before : (d s : Bytes) (at base size : ℕ) → base + size ≤ length d → base + size ≤ at
    → take size (drop base (placed d at s)) ≡ take size (drop base d)
unfolding placed
before d s at base size h k =
    let n : ℕ = base + size in
    let a : n ≤ length (take at d) = rw length-take (omega arith) in
    let b : n ≤ length (take at d ++ s) = rw length-append (omega arith) in
    let e : take n (placed d at s) ≡ take n d =
    take-append-le n (take at d ++ s) (drop (at + length s) d) b ∙ take-append-le n (take at d) s a ∙ take-take n at d k in
    sym (drop-take base size (placed d at s)) ∙ ap (drop base) e ∙ drop-take base size d

-- what lies behind
behind : (d s : Bytes) (at base size : ℕ) → base + size ≤ length d → at + length s ≤ base
    → take size (drop base (placed d at s)) ≡ take size (drop base d)
unfolding placed
behind d s at base size h k =
    let a : at ≤ length d = omega arith in
    ap (take size)
    (drop-append-drop (at + length s) d (take at d ++ s) base k (length-append (take at d) s ∙ ap (λ (n : ℕ). n + length s) (length-take-le at d a)))

module _ (store : Bytes) (long : length store ≡ store_size) where
  pub room_length : (at : ℕ) → length (room_at store at) ≡ room_size
  room_length at = rw (length-take, length-drop) (omega arith)

  pub put_length : (at : ℕ) (room : Bytes) → length room ≡ room_size → length (put_at store at room) ≡ store_size
  put_length at room e = placed_length store (min at last_room) room (omega arith) ∙ long

  -- a room's own bytes are those put in it
  pub put_own : (at : ℕ) (room : Bytes) → length room ≡ room_size → room_at (put_at store at room) at ≡ room
  unfolding placed
  put_own at room e =
      let q : min at last_room ≤ length store = omega arith in
      ap (λ (l : Bytes). take room_size (drop (min at last_room) l)) (append_assoc (take (min at last_room) store) room _)
      ∙ ap (take room_size) (drop_at (take (min at last_room) store) _ (min at last_room) (length-take-le (min at last_room) store q))
      ∙ ap (λ (n : ℕ). take n (room ++ drop (min at last_room + length room) store)) (sym e)
      ∙ take-append_seam room _

  -- what is put in another room leaves this one's bytes
  pub apart : (at other : ℕ) (room : Bytes) → length room ≡ room_size → Slotted at → Slotted other → (other ≡ at → ⊥)
      → room_at (put_at store other room) at ≡ room_at store at
  apart at other room e (a, b) (c, d) ne = go (ltb other at) refl
    where
      go : (t : Bool) → ltb other at ≡ t → room_at (put_at store other room) at ≡ room_at store at
      go true h =
          let k : other < at = ltb-true other at h in
          behind store room (min other last_room) (min at last_room) room_size (omega arith) (omega arith)
      go false h =
          let k : at ≤ other = ltb-false other at h in
          before store room (min other last_room) (min at last_room) room_size (omega arith) (omega arith)
