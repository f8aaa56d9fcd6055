-- The walk of ask and tick is refused exactly when it comes to a connection that sets a deadline, and the deadline does not fit.
use Rattle.std.specs.Prelude.{Option, Some, None, Result, Ok, Err, IsNone, IsSome}
use Prim.Native.Nat.{ℕ}
use native.Mathlib.Omega.{arith}
use mathlib.Core.Path.{◌≡◌, refl}
use mathlib.Core.List.{List, [], ◌∷◌}
use borrow.Author.Tests.{le-ltb, lt-ltb, ne_eqb}
use Rattle.laws.specs.Pick.{pick}
use Rattle.connection.proofs.TurnView.{
  AskView,
  Given,
  Silent,
  TickView,
  again,
  ask_view,
  closed,
  early,
  ends,
  first,
  gives,
  idle,
  late,
  later,
  never,
  next,
  opening,
  over,
  reading,
  reads,
  silent,
  tick_view,
  unloaded,
  waits,
}
use Rattle.connection.specs.Ask.{ask_of}
use Rattle.connection.specs.Tick.{tick_of}
use Rattle.man_table.specs.Walk.{Walking, passed, refused, stop_or, stopped, through, at_turn, walk_list, walk_step}
use Rattle.theorems.specs.Causes.{Does, Meets, OutOfRange, Sets, ask_does, passes, sets, stops, tick_does, turn_does}
use Rattle.theorems.specs.Types.{Now, Outgoing, Refusal, SdoClientConnection as Connection, SdoClientConnectionState as State, Step, Turn}

-- ---- what a step is, by what the connection does
unfoldable StepAs : Now → Does → Result Step Refusal → Type 0
StepAs n passes (Ok s) = IsNone s.sends
StepAs n passes (Err r) = ⊥
StepAs n sets (Ok s) = OutOfRange n → ⊥
StepAs n sets (Err r) = (r ≡ Refusal.DeadlineRange) × OutOfRange n
StepAs n stops (Ok s) = IsSome s.sends
StepAs n stops (Err r) = ⊥

silent_does : (c : Connection) (n : Now) → Silent c → ask_does n c ≡ passes
silent_does c n (waits e) = rw e
silent_does c n (idle f s) = rw (f, s)
silent_does c n (reads f s) = rw (f, s)
silent_does c n (closed f s) = rw (f, s)
silent_does c n (unloaded f s l) = rw (f, s, l)

given_does : (c : Connection) (n : Now) {s : State} {sent : ℕ} {o : Outgoing} → Given c s sent o → ask_does n c ≡ sets
given_does c n (opening f s) = rw (f, s)
given_does c n (first f s l) = rw (f, s, l)
given_does c n (reading f s l p) = rw (f, s, l, p)
given_does c n (next f s) = rw (f, s)
given_does c n (later f s l) = rw (f, s, l)

ask_as : (c : Connection) (n : Now) → StepAs n (ask_does n c) (ask_of c n)
unfolding StepAs
ask_as c n = go (ask_view c n)
  where
    go : {x : Result Step Refusal} → AskView c n x → StepAs n (ask_does n c) x
    go (silent w) = rw (silent_does c n w) refl
    go (ends f s l p) = rw (f, s, l, p) refl
    go (gives g h) = rw (given_does c n g) (λ z. omega arith)
    go (late g h) = rw (given_does c n g) (refl, h)

tick_as : (c : Connection) (n : Now) → StepAs n (tick_does n c) (tick_of c n)
unfolding StepAs pick
tick_as c n = go (tick_view c n)
  where
    go : {x : Result Step Refusal} → TickView c n x → StepAs n (tick_does n c) x
    go (never e) = rw e refl
    go (early {d} e h) = rw (e, lt-ltb n.time d h) refl
    go (over {d} e h r) = rw (e, le-ltb n.time d h, r) refl
    go (again {d} e h r k) = rw (e, le-ltb n.time d h, ne_eqb _ 0 r) (λ z. omega arith)
    go (late {d} e h r k) = rw (e, le-ltb n.time d h, ne_eqb _ 0 r) (refl, k)

turn_as : (t : Turn) (n : Now) (c : Connection) → StepAs n (turn_does t n c) (at_turn t c n)
turn_as Turn.Asking n c = ask_as c n
turn_as Turn.Ticking n c = tick_as c n

-- ---- the walk
-- refused for a cause, and for no other
abbrev pub RefusedIf : Type 0 → Walking → Type 0
RefusedIf cause (refused r) = (r ≡ Refusal.DeadlineRange) × cause
RefusedIf cause (through k) = cause → ⊥
RefusedIf cause (stopped j o k) = cause → ⊥

pass_as : (cause : Type 0) (d : Connection) (w : Walking) → RefusedIf cause w → RefusedIf cause (passed d w)
pass_as cause d (refused r) h = h
pass_as cause d (through k) h = h
pass_as cause d (stopped j o k) h = h

-- where the deadline fits, no cause holds
fit_as : (n : Now) (A B : Type 0) → (OutOfRange n → ⊥) → (w : Walking) → RefusedIf (OutOfRange n × A) w → RefusedIf (OutOfRange n × B) w
fit_as n A B f (refused r) h = absurd (f h.1.0)
fit_as n A B f (through k) h = λ z. f z.0
fit_as n A B f (stopped j o k) h = λ z. f z.0

module _ (n : Now) (Rest : Type 0) (l : List Connection) (w : Walking) (h : RefusedIf (OutOfRange n × Rest) w) where
  passes_as : (x : Option Outgoing) (d : Connection) → IsNone x → RefusedIf (OutOfRange n × Rest) (stop_or x d l w)
  passes_as None d g = pass_as _ d w h
  passes_as (Some o) d g = cc

  sets_as : (x : Option Outgoing) (d : Connection) → (OutOfRange n → ⊥) → RefusedIf (OutOfRange n × Unit {0}) (stop_or x d l w)
  sets_as None d f = pass_as _ d w (fit_as n Rest (Unit {0}) f w h)
  sets_as (Some o) d f = λ z. f z.0

  stops_as : (x : Option Outgoing) (d : Connection) → IsSome x → RefusedIf (OutOfRange n × ⊥) (stop_or x d l w)
  stops_as None d g = cc
  stops_as (Some o) d g = λ z. z.1

  step_walk : (k : Does) (s : Result Step Refusal) → StepAs n k s → RefusedIf (OutOfRange n × Meets k Rest) (walk_step s l w)
  unfolding StepAs
  step_walk passes (Ok s) g = passes_as s.sends s.connection g
  step_walk passes (Err r) g = absurd g
  step_walk sets (Ok s) g = sets_as s.sends s.connection g
  step_walk sets (Err r) g = (g.0, (g.1, tt))
  step_walk stops (Ok s) g = stops_as s.sends s.connection g
  step_walk stops (Err r) g = absurd g

pub walk_if : (t : Turn) (n : Now) (l : List Connection) → RefusedIf (OutOfRange n × Sets (turn_does t n) l) (walk_list t n l)
walk_if t n [] = λ z. z.1
walk_if t n (c ∷ l) =
    step_walk n (Sets (turn_does t n) l) l (walk_list t n l) (walk_if t n l) (turn_does t n c) (at_turn t c n) (turn_as t n c)
