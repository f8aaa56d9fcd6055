-- A table in order, each connection in a room of its own: it stays so where each keeps node and room, where one more is put in its place,
-- and where some are removed; and each node in it is tracked.
use Rattle.std.specs.Prelude.{All, Option, Some, None}
use Rattle.std.proofs.lemmas.List.Elements.{All-cons, All-nil, All-head, All-tail, length_all_zip, AllZip-get_or}
use Rattle.std.specs.List.{AllZip}
use Rattle.std.proofs.lemmas.List.Kept.{AllPairs-cons}
use Prim.Native.Nat.{ℕ, zero, suc, ◌<◌, ◌≤◌}
use native.Mathlib.Omega.{arith}
use mathlib.Core.Path.{◌≡◌, refl, sym, ◌∙◌}
use mathlib.Core.List.{List, [], ◌∷◌}
use lib.Dec.{ltb}
use lib.ListN.{get_or, length}
use borrow.Author.Tests.{ltb-true, ltb-false}
use Rattle.con_rec.specs.Record.{end_of}
use Rattle.laws.proofs.Choices.{decided}
use Rattle.man_table.specs.Sweep.{running, unless_end}
use Rattle.man_table.specs.Table.{blank, insert_at, insert_in, place_in}
use Rattle.theorems.specs.Sound.{Before, Ordered, Slotted}
use Rattle.theorems.specs.Types.{End, SdoClientConnection as Connection}
use Rattle.theorems.proofs.AllLists.{all_insert, pairs_head, pairs_tail}
use Rattle.theorems.proofs.Cases.{Absent, At, OtherNode}
use Rattle.theorems.proofs.NodeAndRoom.{Same}
use Rattle.theorems.proofs.FreeRooms.{Nobodys, OtherRoom}
use Rattle.theorems.proofs.Tracked.{Others, Tracks, here, there}
use Rattle.theorems.proofs.WalkSteps.{all_running}

-- ---- each keeps node and room
before_same : (c d x y : Connection) → Same c d → Same x y → Before c x → Before d y
before_same c d x y s r (h, ne) = (omega (arith, s.0, r.0), λ e. ne (sym s.1 ∙ e ∙ r.1))

pub ordered_each : (l k : List Connection) → AllZip Same l k → Ordered l → Ordered k
ordered_each l k e o i j z h w =
    let last : j < length l = omega (arith, length_all_zip Same l k e) in
    before_same (get_or l i z) (get_or k i z) (get_or l j z) (get_or k j z) (AllZip-get_or Same l k i z z e (omega arith))
    (AllZip-get_or Same l k j z z e last) (o i j z h last)

-- ---- some are removed
pub ordered_running : (l : List Connection) → Ordered l → Ordered (running l)
ordered_running [] o = o
ordered_running (c ∷ l) o = go (end_of c) (ordered_running l (pairs_tail Before c l o))
  where
    go : (x : Option End) → Ordered (running l) → Ordered (unless_end x c (running l))
    go None r = AllPairs-cons Before c (running l) (all_running (Before c) l (pairs_head Before c l o)) r
    go (Some e) r = r

-- ---- one more is put in its place
ahead : (d c : Connection) (l : List Connection) → d.target_node_id < c.target_node_id → All (Before c) l → Nobodys d.room l
    → All (Before d) l
ahead d c l h a n k x w = (omega (arith, (a k x w).0), λ e. n k x w (sym e))

pub ordered_insert : (d : Connection) (l : List Connection) → Absent d.target_node_id l → Nobodys d.room l → Ordered l
    → Ordered (insert_in d l)
ordered_insert d [] a n o = AllPairs-cons Before d [] (All-nil (Before d)) o
ordered_insert d (c ∷ l) a n o =
    let rest = ordered_insert d l (All-tail (OtherNode d.target_node_id) c l a) (All-tail (OtherRoom d.room) c l n) (pairs_tail Before c l o) in
    decided (λ (k : ℕ). Ordered (insert_at k d (c ∷ l))) (ltb d.target_node_id c.target_node_id) 0 _
    (λ h. first (ltb-true _ _ h)) (λ h. later (ltb-false _ _ h) rest)
  where
    first : d.target_node_id < c.target_node_id → Ordered (d ∷ c ∷ l)
    first h =
        AllPairs-cons Before d (c ∷ l)
        (All-cons (Before d) c l (h, λ e. All-head (OtherRoom d.room) c l n (sym e))
        (ahead d c l h (pairs_head Before c l o) (All-tail (OtherRoom d.room) c l n))) o

    later : c.target_node_id ≤ d.target_node_id → Ordered (insert_in d l) → Ordered (c ∷ insert_in d l)
    later h rest =
        let ne = All-head (OtherNode d.target_node_id) c l a in
        AllPairs-cons Before c (insert_in d l)
        (all_insert (Before c) l (place_in d.target_node_id l) d (omega arith, All-head (OtherRoom d.room) c l n) (pairs_head Before c l o)) rest

-- ---- each node is tracked
abbrev pub InSlot : Connection → Type 0
InSlot c = Slotted c.room

after_here : (node : ℕ) (c : Connection) (l : List Connection) → c.target_node_id ≡ node → All (Before c) l
    → All InSlot l → Others node c.room l
after_here node c l e a s k x h =
    record { node_differs = λ f. omega (arith, (a k x h).0); room_differs = λ f. (a k x h).1 (sym f); slotted = s k x h }

pub ordered_tracks : (node : ℕ) (l : List Connection) → Ordered l → All InSlot l → (k : ℕ) → At node l k
    → Tracks node (get_or l k blank).room (λ (c : Connection). c ≡ get_or l k blank) l
ordered_tracks node [] o s k h = absurd (omega (arith, h.1))
ordered_tracks node (c ∷ l) o s zero h = here h.0 refl refl (after_here node c l h.0 (pairs_head Before c l o) (All-tail InSlot c l s))
ordered_tracks node (c ∷ l) o s (suc k) h =
    let b : Before c (get_or l k blank) = pairs_head Before c l o k blank (omega (arith, h.1)) in
    let ne : c.target_node_id ≡ node → ⊥ = λ f. omega (arith, f, b.0, h.0) in
    there (record { node_differs = ne; room_differs = b.1; slotted = All-head InSlot c l s })
    (ordered_tracks node l (pairs_tail Before c l o) (All-tail InSlot c l s) k (h.0, omega (arith, h.1)))

-- a node that is nowhere, and a room that is nobody's
pub nowhere : (node room : ℕ) (l : List Connection) → Absent node l → Nobodys room l → All InSlot l
    → Others node room l
nowhere node room l a n s k x h = record { node_differs = a k x h; room_differs = n k x h; slotted = s k x h }
