-- A node's connection in the table, and the others: it stands there once, in a room that no other one has.
use Rattle.std.specs.Prelude.{All, Option, Some, None}
use Rattle.std.proofs.lemmas.List.Elements.{All-head, All-tail}
use Prim.Native.Nat.{ℕ, zero, suc, ◌<◌}
use native.Mathlib.Omega.{arith}
use mathlib.Core.Path.{◌≡◌, refl, sym, ◌∙◌, ap, subst}
use mathlib.Core.Bool.{false}
use mathlib.Core.List.{List, [], ◌∷◌}
use lib.Dec.{eqb, ltb}
use lib.ListN.{length, get_or, set}
use borrow.Author.Tests.{eq-eqb, ne_eqb}
use Rattle.laws.specs.Pick.{pick}
use Rattle.codec.specs.Bytes.{Bytes}
use Rattle.con_rec.specs.Record.{end_of, end_with}
use Rattle.laws.proofs.Choices.{either}
use Rattle.man_table.specs.Sweep.{ends_in, running, unless_end, with_end}
use Rattle.man_table.specs.Table.{blank, insert_at, insert_in}
use Rattle.theorems.specs.Quiet.{Holding, holding_in}
use Rattle.theorems.specs.Story.{end_for}
use Rattle.theorems.specs.Types.{End, Reason, SdoClientConnection as Connection}
use Rattle.theorems.proofs.Cases.{Absent, OtherNode}
use Rattle.theorems.proofs.NodeAndRoom.{Same}
use Rattle.theorems.proofs.Rooms.{Slotted, room_at}
use Rattle.theorems.proofs.WalkSteps.{all_running}

-- a connection of another node, in another room
pub record Other (node at : ℕ) (c : Connection) : Type 0 where
  pub node_differs : c.target_node_id ≡ node → ⊥
  pub room_differs : c.room ≡ at → ⊥
  pub slotted : Slotted c.room

abbrev pub Others : ℕ → ℕ → List Connection → Type 0
Others node at l = All (Other node at) l

-- the table has one connection of the node, in the room at `at`, and Q holds of it; all others are `Other`
pub data Tracks (node at : ℕ) (Q : Connection → Type 0) : List Connection → Type 0 where
  here : {c : Connection} {l : List Connection} → c.target_node_id ≡ node → c.room ≡ at → Q c → Others node at l
      → Tracks node at Q (c ∷ l)
  there : {c : Connection} {l : List Connection} → Other node at c → Tracks node at Q l → Tracks node at Q (c ∷ l)

module _ (node at : ℕ) where
  pub other_same : (c d : Connection) → Same c d → Other node at c → Other node at d
  other_same c d s o =
      record {
        node_differs = λ e. o.node_differs (sym s.0 ∙ e);
        room_differs = λ e. o.room_differs (sym s.1 ∙ e);
        slotted = rw s.1 o.slotted;
      }

  module _ (Q : Connection → Type 0) where
    -- ---- it changes, at its place
    pub tracks_own : (R : Connection → Type 0) {l : List Connection} (k : ℕ) (d : Connection) → k < length l
        → (get_or l k blank).target_node_id ≡ node → Same (get_or l k blank) d → R d → Tracks node at Q l → Tracks node at R (set l k d)
    tracks_own R zero d h e s r (here f g q o) = here (s.0 ∙ f) (s.1 ∙ g) r o
    tracks_own R (suc k) d h e s r (here {c = c} {l = l} f g q o) =
        absurd ((o k blank (omega arith)).node_differs e)
    tracks_own R zero d h e s r (there o t) = absurd (o.node_differs e)
    tracks_own R (suc k) d h e s r (there {c = c} {l = l} o t) = there o (tracks_own R k d (omega arith) e s r t)

    -- ---- it is put among the others
    pub insert_own : (d : Connection) → d.target_node_id ≡ node → d.room ≡ at → Q d → (l : List Connection) → Others node at l
        → Tracks node at Q (insert_in d l)
    insert_own d f g q [] o = here f g q o
    insert_own d f g q (c ∷ l) o =
        let rest = insert_own d f g q l (All-tail (Other node at) c l o) in
        either (λ (k : ℕ). Tracks node at Q (insert_at k d (c ∷ l))) (ltb d.target_node_id c.target_node_id) 0 _
        (here f g q o) (there (All-head (Other node at) c l o) rest)

-- ---- what is held for the node, and the end that is reported of it
-- a connection that ended is no longer held
abbrev pub held_after : Option End → Connection → Bytes → Holding
held_after None d room = Some (d, room)
held_after (Some e) d room = None

module _ (node : ℕ) (store : Bytes) where
  -- where no connection of the table is the node's
  pub nothing_held : (l : List Connection) → Absent node l → holding_in node l store ≡ None
  unfolding pick
  nothing_held [] a = refl
  nothing_held (c ∷ l) a =
      rw (ne_eqb c.target_node_id node (All-head (OtherNode node) c l a)) (nothing_held l (All-tail (OtherNode node) c l a))

  pub no_end_lem : (l : List Connection) → Absent node l → end_for node (ends_in l) ≡ None
  unfolding pick
  no_end_lem [] a = refl
  no_end_lem (c ∷ l) a = go c.outcome (no_end_lem l (All-tail (OtherNode node) c l a))
    where
      go : (x : Option Reason) → end_for node (ends_in l) ≡ None
          → end_for node (with_end (end_with c x) (ends_in l)) ≡ None
      go None r = r
      go (Some why) r = rw (ne_eqb c.target_node_id node (All-head (OtherNode node) c l a)) r

module _ (node at : ℕ) (store : Bytes) (d : Connection) where
  abbrev Stands : List Connection → Type 0
  Stands l = Tracks node at (λ (c : Connection). c ≡ d) l

  pub others_absent : (l : List Connection) → Others node at l → Absent node l
  others_absent l o = λ k x h. (o k x h).node_differs

  pub tracked_holding : {l : List Connection} → Stands l → holding_in node l store ≡ Some (d, room_at store at)
  unfolding pick
  tracked_holding (here {c = c} e f q o) =
      rw (eq-eqb c.target_node_id node e, ← f) (ap (λ (x : Connection). Some (x, room_at store c.room)) q)
  tracked_holding (there {c = c} o t) = rw (ne_eqb c.target_node_id node o.node_differs) (tracked_holding t)

  -- after the sweep
  abbrev Swept : List Connection → Connection → Type 0
  Swept l x = (holding_in node (running l) store ≡ held_after (end_of x) x (room_at store at)) × (end_for node (ends_in l) ≡ end_of x)

  sweep_here : (c : Connection) (l : List Connection) → c.target_node_id ≡ node → c.room ≡ at → Others node at l → Swept (c ∷ l) c
  unfolding pick
  sweep_here c l e f o = go c.outcome
    where
      none : Absent node (running l)
      none = others_absent (running l) (all_running (Other node at) l o)

      go : (x : Option Reason)
          → (holding_in node (unless_end (end_with c x) c (running l)) store ≡ held_after (end_with c x) c (room_at store at))
          × (end_for node (with_end (end_with c x) (ends_in l)) ≡ end_with c x)
      go None =
          (rw (eq-eqb c.target_node_id node e, ← f) refl, no_end_lem node store l (others_absent l o))
      go (Some why) = (nothing_held node store (running l) none, rw (eq-eqb c.target_node_id node e) refl)

  pub sweep : {l : List Connection} → Stands l → Swept l d
  unfolding pick
  sweep (here {c = c} {l = l} e f q o) = subst (Swept (c ∷ l)) q (sweep_here c l e f o)
  sweep (there {c = c} {l = l} o t) = go c.outcome (sweep t)
    where
      ne : eqb c.target_node_id node ≡ false
      ne = ne_eqb c.target_node_id node o.node_differs

      go : (x : Option Reason) → Swept l d
          → (holding_in node (unless_end (end_with c x) c (running l)) store ≡ held_after (end_of d) d (room_at store at))
          × (end_for node (with_end (end_with c x) (ends_in l)) ≡ end_of d)
      go None r = (rw ne r.0, r.1)
      go (Some why) r = (r.0, rw ne r.1)
