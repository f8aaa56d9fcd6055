-- The walk of ask and tick over a table in which a node's connection stands: it takes its step, or the walk stopped before it; and the command that
-- the walk stops at is its own, or another's.
use Rattle.std.specs.Prelude.{Option, Some, None, Result, Ok, Err}
use Prim.Native.Nat.{ℕ}
use mathlib.Core.Path.{◌≡◌, refl, sym, ◌∙◌, ap}
use mathlib.Core.List.{List}
use mathlib.Core.Logic.{◌⊎◌, inl, inr}
use lib.ListN.{get_or}
use Rattle.man_table.specs.Table.{blank}
use Rattle.man_table.specs.Walk.{Walking, passed, refused, stop_or, stopped, through, at_turn, walk_list, walk_step}
use Rattle.theorems.specs.Types.{Now, Outgoing, Refusal, SdoClientConnection as Connection, Step, Turn}
use Rattle.theorems.proofs.AllLists.{all_each}
use Rattle.theorems.proofs.NodeAndRoom.{Same}
use Rattle.theorems.proofs.Tracked.{Other, Others, Tracks, here, there, other_same}
use Rattle.theorems.proofs.WalkSteps.{StepBy, WalkBy, turn_same, walk_same}

module _ (t : Turn) (n : Now) where
  -- what a walk makes of a connection
  pub data Turned (c : Connection) : Option Outgoing → Connection → Type 0 where
    unreached : Turned c None c
    stepped : {x : Option Outgoing} {d : Connection} → at_turn t c n ≡ Ok (record { connection = d; sends = x }) → Turned c x d

  module _ (node at : ℕ) (c : Connection) where
    pub record Walked (x : Option Outgoing) (l : List Connection) : Type 0 where
      pub then : Connection
      pub turned : Turned c x then
      pub tracks : Tracks node at (λ (y : Connection). y ≡ then) l

    -- the walk stops at its command
    pub record Gives (k : ℕ) (o : Outgoing) (l : List Connection) : Type 0 where
      pub walked : Walked (Some o) l
      pub is : get_or l k blank ≡ walked.then

    abbrev pub Sees : Walking → Type 0
    Sees (refused r) = Unit {0}
    Sees (through l) = Walked None l
    Sees (stopped k o l) = Gives k o l ⊎ (Walked None l × Other node at (get_or l k blank))

    -- ---- its own step, and the walk of the others after it
    module _ (d : Connection) (e : d.target_node_id ≡ node) (f : d.room ≡ at) where
      pass_here : (l : List Connection) (w : Walking) → Turned c None d → Others node at l → WalkBy Same l w → Sees (passed d w)
      pass_here l (refused r) u o h = tt
      pass_here l (through m) u o h =
          record { then = d; turned = u; tracks = here e f refl (all_each (Other node at) Same (other_same node at) l m h o) }
      pass_here l (stopped k x m) u o h =
          let others : Others node at m = all_each (Other node at) Same (other_same node at) l m h.0 o in
          inr (record { then = d; turned = u; tracks = here e f refl others }, others k blank h.1)

      stop_here : (x : Option Outgoing) (l : List Connection) (w : Walking) → Turned c x d → Others node at l → WalkBy Same l w
          → Sees (stop_or x d l w)
      stop_here (Some x) l w u o h = inl (record { walked = record { then = d; turned = u; tracks = here e f refl o }; is = refl })
      stop_here None l w u o h = pass_here l w u o h

    step_here : (x : Connection) (s : Result Step Refusal) (l : List Connection) (w : Walking) → x ≡ c → x.target_node_id ≡ node → x.room ≡ at
        → at_turn t x n ≡ s → StepBy Same x s → Others node at l → WalkBy Same l w → Sees (walk_step s l w)
    step_here x (Err r) l w q e f g same o h = tt
    step_here x (Ok s) l w q e f g same o h =
        stop_here s.connection (same.0 ∙ e) (same.1 ∙ f) s.sends l w (stepped (ap (λ (y : Connection). at_turn t y n) (sym q) ∙ g)) o h

    -- ---- another's step before it
    pass_there : (d : Connection) (w : Walking) → Other node at d → Sees w → Sees (passed d w)
    pass_there d (refused r) o g = tt
    pass_there d (through m) o g = record { then = g.then; turned = g.turned; tracks = there o g.tracks }
    pass_there d (stopped k x m) o (inl g) =
        inl
        (record {
          walked = record { then = g.walked.then; turned = g.walked.turned; tracks = there o g.walked.tracks };
          is = g.is;
        })
    pass_there d (stopped k x m) o (inr (g, other)) =
        inr (record { then = g.then; turned = g.turned; tracks = there o g.tracks }, other)

    stop_there : (x : Option Outgoing) (d : Connection) (l : List Connection) (w : Walking) → Other node at d
        → Tracks node at (λ (y : Connection). y ≡ c) l → Sees w → Sees (stop_or x d l w)
    stop_there (Some x) d l w o u g = inr (record { then = c; turned = unreached; tracks = there o u }, o)
    stop_there None d l w o u g = pass_there d w o g

    step_there : (x : Connection) (s : Result Step Refusal) (l : List Connection) (w : Walking) → Other node at x → StepBy Same x s
        → Tracks node at (λ (y : Connection). y ≡ c) l → Sees w → Sees (walk_step s l w)
    step_there x (Err r) l w o same u g = tt
    step_there x (Ok s) l w o same u g =
        stop_there s.sends s.connection l w (other_same node at x s.connection same o) u g

    pub walk_sees : {l : List Connection} → Tracks node at (λ (y : Connection). y ≡ c) l → Sees (walk_list t n l)
    walk_sees (here {c = x} {l = l} e f q o) =
        step_here x (at_turn t x n) l (walk_list t n l) q e f refl (turn_same t n x) o (walk_same t n l)
    walk_sees (there {c = x} {l = l} o u) =
        step_there x (at_turn t x n) l (walk_list t n l) o (turn_same t n x) u (walk_sees u)
