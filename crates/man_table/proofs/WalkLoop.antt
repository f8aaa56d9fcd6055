-- The walk of tick and ask: the loop's invariant, that a turn keeps it, and what each way out comes to.
use Rattle.std.specs.Prelude.{Some, None, Result, Ok, Err}
use Prim.Native.Nat.{ℕ, suc, ◌+◌, ◌≤◌, ◌<◌}
use native.Mathlib.Nat.{lt_of_lt_of_le, le_of_lt}
use native.Mathlib.Numerals.{add-one}
use native.Mathlib.Omega.{arith}
use mathlib.Core.Path.{◌≡◌, refl, sym, ap, ◌∙◌}
use mathlib.Core.Bool.{Bool, true}
use mathlib.Core.List.{List, [], ◌∷◌, ◌++◌}
use lib.ListN.{length, take, drop, get_or, set, length-set, take-append-drop}
use lib.Seq.{slice, slice-cons, slice_empty, take-suc-set, drop-set-lt, take-set-lt, set-get_or, set_split, take-take, length-take-le}
use Rattle.man_table.specs.Resting.{rests_of}
use Rattle.man_table.specs.Table.{Lived}
use Rattle.man_table.specs.Types.{Now, Outgoing, Refusal, SdoClientConnection, SdoClientManager, Step, Turn, Walk, Walked}
use Rattle.man_table.proofs.RestingTurns.{rests_quiet}
use Rattle.man_table.specs.Walk.{Walking, refused, through, stopped, passed, at_turn, walk_step, walk_list, walk_of}

-- a walk of the rest, with the connections that were passed before it
abbrev pub after : List SdoClientConnection → Walking → Walking
after [] w = w
after (d ∷ ds) w = passed d (after ds w)

after_snoc : (ds : List SdoClientConnection) (d : SdoClientConnection) (w : Walking) → after (ds ++ (d ∷ [])) w ≡ after ds (passed d w)
after_snoc [] d w = refl
after_snoc (x ∷ ds) d w = ap (passed x) (after_snoc ds d w)

after_refused : (ds : List SdoClientConnection) (r : Refusal) → after ds (refused r) ≡ refused r
after_refused [] r = refl
after_refused (x ∷ ds) r = ap (passed x) (after_refused ds r)

after_through : (ds : List SdoClientConnection) → after ds (through []) ≡ through ds
after_through [] = refl
after_through (x ∷ ds) = ap (passed x) (after_through ds)

after_stopped : (ds : List SdoClientConnection) (o : Outgoing) (l : List SdoClientConnection)
    → after ds (stopped 0 o l) ≡ stopped (length ds) o (ds ++ l)
after_stopped [] o l = refl
after_stopped (x ∷ ds) o l = ap (passed x) (after_stopped ds o l)

-- with the first i of n passed, the walk of the whole is the walk of the rest behind those
pub record Going (t : Turn) (now : Now) (old : List SdoClientConnection) (n : ℕ) (connections : List SdoClientConnection) (i : ℕ)
    : Type 0 where
  pub within : i ≤ n
  pub fits : n ≤ length connections
  pub tail : drop n connections ≡ drop n old
  pub so : walk_list t now (take n old) ≡ after (take i connections) (walk_list t now (slice i n connections))

pub going_none : (t : Turn) (now : Now) (old : List SdoClientConnection) (n : ℕ) → n ≤ length old → Going t now old n old 0
going_none t now old n h = record { within = omega arith; fits = h; tail = refl; so = refl }

module _ (t : Turn) (now : Now) (old : List SdoClientConnection) (n : ℕ) (cs : List SdoClientConnection) (i : ℕ) (b : SdoClientConnection)
    (g : Going t now old n cs i) (l : i < n) (a : Result Step Refusal) (e : a ≡ at_turn t (get_or cs i b) now) where
  -- what the walk of the whole comes to, by what the next connection does
  next : walk_list t now (take n old)
      ≡ after (take i cs) (walk_step a (slice (suc i) n cs) (walk_list t now (slice (suc i) n cs)))
  next = g.so ∙ rw (slice-cons i n cs b l g.fits, e)

  rest_set : (d : SdoClientConnection) → slice (suc i) n (set cs i d) ≡ slice (suc i) n cs
  rest_set d = ap (drop (suc i)) (take-set-lt n cs i d l) ∙ drop-set-lt (suc i) (take n cs) i d (omega arith)

  going_refused : (r : Refusal) → a ≡ Err r → walk_list t now (take n old) ≡ refused r
  going_refused r w = next ∙ rw w (after_refused (take i cs) r)

  module _ (s : Step) (w : a ≡ Ok s) where
    pub going_more : s.sends ≡ None → Going t now old n (set cs i s.connection) (i + 1)
    going_more f =
        record {
          within = omega arith;
          fits = rw length-set g.fits;
          tail = drop-set-lt n cs i s.connection l ∙ g.tail;
          so =
              next
              ∙ rw (
                w,
                f,
                add-one,
                take-suc-set cs i s.connection (lt_of_lt_of_le l g.fits),
                rest_set s.connection,
                after_snoc,
              );
        }

    going_stopped : (o : Outgoing) → s.sends ≡ Some o
        → walk_list t now (take n old) ≡ stopped i o (take n (set cs i s.connection))
    going_stopped o f =
        let h : i ≤ length cs = le_of_lt (lt_of_lt_of_le l g.fits) in
        let k : i < length (take n cs) = rw (length-take-le n cs g.fits) l in
        next
        ∙ rw (w, f)
        (after_stopped (take i cs) o (s.connection ∷ slice (suc i) n cs)
        ∙ rw (
          length-take-le i cs h,
          take-set-lt n cs i s.connection l,
          set_split (take n cs) i s.connection,
          take-take i n cs (le_of_lt l),
        ))

-- a connection that rests is passed as it is
pub going_rest : (t : Turn) (now : Now) (old : List SdoClientConnection) (n : ℕ) (cs : List SdoClientConnection) (i : ℕ) (b : SdoClientConnection)
    (r : Bool) → Going t now old n cs i → i < n → r ≡ rests_of t (get_or cs i b) now → r ≡ true → Going t now old n cs (i + 1)
going_rest t now old n cs i b r g l p q =
    rw (set-get_or cs i b) at
    (going_more t now old n cs i b g l (at_turn t (get_or cs i b) now) refl
    (record { connection = get_or cs i b; sends = None }) (rests_quiet t (get_or cs i b) now (sym p ∙ q)) refl)

going_through : (t : Turn) (now : Now) (old : List SdoClientConnection) (n : ℕ) (cs : List SdoClientConnection)
    → Going t now old n cs n → walk_list t now (take n old) ≡ through (take n cs)
going_through t now old n cs g = g.so ∙ rw slice_empty (after_through (take n cs))

-- what a walk never changes of the manager, beside the table
pub record Kept (m after : SdoClientManager) : Type 0 where
  pub count : after.count ≡ m.count
  pub number : after.next_transaction_id ≡ m.next_transaction_id

-- a manager with other connections
abbrev pub with_all : SdoClientManager → List SdoClientConnection → SdoClientManager
with_all m cs = record { connections = cs; count = m.count; next_transaction_id = m.next_transaction_id }

-- what the walk returns, at each of its ways out
module _ (m : SdoClientManager) (t : Turn) (now : Now) (n : ℕ) (v : Lived m n) (a : SdoClientManager) (i : ℕ) (k : Kept m a)
    (g : Going t now m.connections n a.connections i) where
  pub passes : n ≤ i → ◌≡◌ {A = Walk} (record { manager = a; walked = Walked.Through }) (walk_of m t now)
  unfolding walk_of
  passes l =
      let h : i ≡ n = omega arith in
      let g' : Going t now m.connections n a.connections n = rw h at g in
      rw (
        ← v.front,
        going_through t now m.connections n a.connections g',
        ← v.back,
        ← g.tail,
        take-append-drop,
        ← k.count,
        ← k.number,
      )

  module _ (b : SdoClientConnection) (l : i < n) (x : Result Step Refusal) (e : x ≡ at_turn t (get_or a.connections i b) now) where
    pub refuses : (r : Refusal) → x ≡ Err r
        → ◌≡◌ {A = Walk} (record { manager = m; walked = Walked.Refused r }) (walk_of m t now)
    unfolding walk_of
    refuses r w = rw (← v.front, going_refused t now m.connections n a.connections i b g l x e r w)

    pub stops : (s : Step) (o : Outgoing) → x ≡ Ok s → s.sends ≡ Some o
        → ◌≡◌ {A = Walk} (record { manager = with_all a (set a.connections i s.connection); walked = Walked.Stopped i o })
        (walk_of m t now)
    unfolding walk_of
    stops s o w f =
        rw (
          ← v.front,
          going_stopped t now m.connections n a.connections i b g l x e s w o f,
          ← v.back,
          ← g.tail,
          ← drop-set-lt n a.connections i s.connection l,
          take-append-drop,
          ← k.count,
          ← k.number,
        )
