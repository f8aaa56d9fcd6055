-- A walk steps each connection or leaves it; what each step keeps, the walk keeps; and what it gives is as long as its segment size says. And the
-- sweep only leaves some out.
use Rattle.std.specs.Prelude.{All, Option, Some, None, Result, Ok, Err}
use Rattle.std.proofs.lemmas.List.Elements.{All-cons, All-head, All-tail}
use Rattle.std.specs.List.{AllZip}
use Prim.Native.Nat.{◌<◌}
use native.Mathlib.Omega.{arith}
use mathlib.Core.Path.{refl}
use mathlib.Core.List.{List, [], ◌∷◌}
use lib.ListN.{length, get_or}
use Rattle.codec.specs.Bytes.{Bytes}
use Rattle.con_reply.proofs.StepSound.{ask_sized, tick_sized}
use Rattle.con_reply.specs.Sent.{AllSized, Sized}
use Rattle.con_rec.specs.Record.{end_of}
use Rattle.man_table.specs.Table.{blank, room_in}
use Rattle.theorems.specs.Sound.{Sane}
use Rattle.man_table.specs.Sweep.{running, unless_end}
use Rattle.man_table.specs.Walk.{Walking, passed, refused, stop_or, stopped, through, at_turn, walk_list, walk_step}
use Rattle.theorems.specs.Types.{End, Now, Outgoing, Refusal, SdoClientConnection as Connection, Step, Turn}
use Rattle.theorems.proofs.AllLists.{each_same}
pub use Rattle.theorems.proofs.NodeAndRoom.{StepBy}
use Rattle.theorems.proofs.NodeAndRoom.{Same, ask_same, tick_same}

-- ---- step by step
-- a walk that stops does so at a place of the table
abbrev pub WalkBy : (Connection → Connection → Type 0) → List Connection → Walking → Type 0
WalkBy R l (refused r) = Unit {0}
WalkBy R l (through m) = AllZip R l m
WalkBy R l (stopped k o m) = AllZip R l m × (k < length m)

module _ (R : Connection → Connection → Type 0) (same : (c : Connection) → R c c) where
  pass_by : (c d : Connection) (l : List Connection) → R c d → (w : Walking) → WalkBy R l w → WalkBy R (c ∷ l) (passed d w)
  pass_by c d l r (refused x) h = tt
  pass_by c d l r (through m) h = (r, h)
  pass_by c d l r (stopped k o m) h = ((r, h.0), omega (arith, h.1))

  stop_by : (c d : Connection) (l : List Connection) → R c d → (w : Walking) → WalkBy R l w → (x : Option Outgoing)
      → WalkBy R (c ∷ l) (stop_or x d l w)
  stop_by c d l r w h (Some o) = ((r, each_same R same l), omega arith)
  stop_by c d l r w h None = pass_by c d l r w h

  step_by : (c : Connection) (l : List Connection) (w : Walking) → WalkBy R l w → (s : Result Step Refusal) → StepBy R c s
      → WalkBy R (c ∷ l) (walk_step s l w)
  step_by c l w h (Err r) i = tt
  step_by c l w h (Ok s) i = stop_by c s.connection l i w h s.sends

  pub walk_by : (t : Turn) (n : Now) → ((c : Connection) → StepBy R c (at_turn t c n)) → (l : List Connection)
      → WalkBy R l (walk_list t n l)
  walk_by t n f [] = tt
  walk_by t n f (c ∷ l) = step_by c l (walk_list t n l) (walk_by t n f l) (at_turn t c n) (f c)

-- ---- no step changes node or room
pub turn_same : (t : Turn) (n : Now) (c : Connection) → StepBy Same c (at_turn t c n)
turn_same Turn.Asking n c = ask_same c n
turn_same Turn.Ticking n c = tick_same c n

pub same_self : (c : Connection) → Same c c
same_self c = (refl, refl)

pub walk_same : (t : Turn) (n : Now) (l : List Connection) → WalkBy Same l (walk_list t n l)
walk_same t n l = walk_by Same same_self t n (turn_same t n) l

-- ---- what a walk gives is as long as its segment size says
abbrev pub WalkSized : Bytes → Walking → Type 0
WalkSized store (refused r) = Unit {0}
WalkSized store (through l) = Unit {0}
WalkSized store (stopped k o l) = Sized (room_in store (get_or l k blank)) (Some o)

module _ (t : Turn) (n : Now) (store : Bytes) where
  pass_sized : (d : Connection) (w : Walking) → WalkSized store w → WalkSized store (passed d w)
  pass_sized d (refused r) h = tt
  pass_sized d (through l) h = tt
  pass_sized d (stopped k o l) h = h

  stop_sized : (c d : Connection) (l : List Connection) (x : Option Outgoing) → Same c d → Sized (room_in store c) x → (w : Walking) → WalkSized store w
      → WalkSized store (stop_or x d l w)
  stop_sized c d l (Some o) s i w h = rw s.1 i
  stop_sized c d l None s i w h = pass_sized d w h

  step_sized : (c : Connection) (l : List Connection) (x : Result Step Refusal) → StepBy Same c x → AllSized (room_in store c) x → (w : Walking)
      → WalkSized store w → WalkSized store (walk_step x l w)
  step_sized c l (Ok x) s i w h = stop_sized c x.connection l x.sends s i w h
  step_sized c l (Err r) s i w h = tt

  turn_sized : (u : Turn) (c : Connection) → Sane store c → AllSized (room_in store c) (at_turn u c n)
  turn_sized Turn.Asking c s = ask_sized c (room_in store c) s.consistent n
  turn_sized Turn.Ticking c s = tick_sized c (room_in store c) s.consistent n

  pub walk_sized : (l : List Connection) → All (Sane store) l → WalkSized store (walk_list t n l)
  walk_sized [] a = tt
  walk_sized (c ∷ l) a =
      step_sized c l (at_turn t c n) (turn_same t n c) (turn_sized t c (All-head (Sane store) c l a)) (walk_list t n l)
      (walk_sized l (All-tail (Sane store) c l a))

-- ---- the sweep
pub all_running : (P : Connection → Type 0) (l : List Connection) → All P l → All P (running l)
all_running P [] a = a
all_running P (c ∷ l) a = go (end_of c) (all_running P l (All-tail P c l a))
  where
    go : (x : Option End) → All P (running l) → All P (unless_end x c (running l))
    go None r = All-cons P c (running l) (All-head P c l a) r
    go (Some e) r = r
