-- The loop of `insert`, which copies what comes after the new connection's place. The invariant: the places hold the connections passed
-- with the new one among them.
use Prim.Native.Nat.{ℕ, suc, ◌+◌, ◌≤◌, ◌<◌}
use native.Mathlib.Omega.{arith}
use mathlib.Core.Path.{◌≡◌, sym, ap, ◌∙◌}
use mathlib.Core.Bool.{Bool, true, false}
use mathlib.Core.List.{[], ◌∷◌, ◌++◌, append_assoc}
use lib.Dec.{ltb}
use lib.ListN.{length, take, get_or, set, length-append}
use lib.Seq.{drop-append-le, length-take-le, take_all, slice_empty, take-append-le, take-take}
use Rattle.laws.specs.Pick.{pick}
use Rattle.man_table.specs.Table.{blank, insert_at, insert_in, live, padded, place_in, table_of}
use Rattle.manager.specs.Types.{SdoClientConnection, SdoClientManager}
use Rattle.man_table.proofs.Tables.{Connections, push}
use Rattle.man_table.proofs.FillLoops.{Filling, fill}

place_le : (node : ℕ) (l : Connections) → place_in node l ≤ length l
unfolding pick
place_le node [] = omega arith
place_le node (c ∷ l) = here (ltb node c.target_node_id) (place_in node l) (length l) (place_le node l)
  where
    here : (b : Bool) (k n : ℕ) → k ≤ n → pick b 0 (suc k) ≤ suc n
    here true k n h = omega arith
    here false k n h = omega arith

-- the place is of those held, or the next after them
pub place_within : (node : ℕ) (l : Connections) (place : ℕ) → place ≡ place_in node l → place ≤ length l
place_within node l place e = omega (arith, place_le node l)

pub place_small : (node : ℕ) (l : Connections) (place : ℕ) → place ≡ place_in node l → length l < 8 → place < 8
place_small node l place e h = omega (arith, place_le node l)

-- the first i connections, and c among them
abbrev pub Shifting : ℕ → SdoClientConnection → Connections → Connections → ℕ → Type 0
Shifting place c old out i = (Filling (insert_at place c) blank old out (i + 1) i) × (place ≤ i)

pub shifting_none : (l : Connections) (place : ℕ) (c : SdoClientConnection) (out : Connections) → length l < 8 → place ≤ length l
    → out ≡ padded (take place l) → Shifting place c l (set out place c) place
shifting_none l place c out h w e =
    let a : length (take place l) ≡ place = length-take-le place l w in
    let t : insert_at place c (take place l) ≡ take place l ++ (c ∷ []) =
    rw (take-take place place l (omega arith), slice_empty place l) in (
      record {
        most = omega arith;
        few = omega arith;
        count = rw (t, length-append) (omega arith);
        filled = rw (e, t) (push blank (take place l) c place (sym a) (omega arith));
      },
      omega arith,
    )

insert_snoc : (k : ℕ) (c : SdoClientConnection) (l : Connections) (x : SdoClientConnection) → k ≤ length l
    → insert_at k c (l ++ (x ∷ [])) ≡ insert_at k c l ++ (x ∷ [])
insert_snoc k c l x h = rw (take-append-le k l (x ∷ []) h, drop-append-le k l (x ∷ []) h, append_assoc)

pub shifting_more : (place : ℕ) (c : SdoClientConnection) (old out : Connections) (i : ℕ) (d : SdoClientConnection)
    → Shifting place c old out i → i < length old → Shifting place c old (set out (i + 1) (get_or old i d)) (i + 1)
shifting_more place c old out i d g l =
    let a : length (take i old) ≡ i = length-take-le i old (omega arith) in
    let x = get_or old i d in
    (fill (insert_at place c) blank old out (i + 1) i d g.0 l x (insert_snoc place c (take i old) x (omega arith)), omega arith)

pub inserted : (m : SdoClientManager) (c : SdoClientConnection) (number : ℕ) (l : Connections) (place : ℕ) (out : Connections) (i : ℕ)
    → l ≡ live m → place ≡ place_in c.target_node_id (live m) → Shifting place c l out i → i ≡ length l
    → ◌≡◌ {A = SdoClientManager} (record { connections = out; count = length l + 1; next_transaction_id = number })
    (table_of (insert_in c (live m)) number)
inserted m c number l place out i f p g e =
    let w : take i l ≡ l = take_all i l (omega arith) in
    let k : length l + 1 ≡ length (insert_at place c l) = ap (λ (x : ℕ). x + 1) (sym e) ∙ rw w at g.0.count in
    rw (← p, ← f, k, g.0.filled, w)
