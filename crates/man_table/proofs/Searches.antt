-- What std's searches over the connections held come to, in the words of the table's definitions: a definition that goes through the list as the search
-- does, and stops where it stops, is what the search finds.
use Rattle.std.proofs.Common.{◌≡◌, ℕ, suc, ◌+◌, ◌-◌, ◌*◌, ◌<◌, Bool, true, false, cond, not, List, [], ◌∷◌, length, Option, Some, None, refl, sym, ap, ◌∙◌, arith}
use Rattle.std.specs.List.{position, list_any}
use Rattle.std.specs.Option.{is_some, unwrap_or}
use lib.Dec.{ltb}
use borrow.Author.Tests.{lt-ltb, le-ltb, ltb-true, ltb-false}
use Rattle.laws.specs.Pick.{pick}
use Rattle.laws.proofs.Picks.{holds, fails}
use Rattle.man_table.specs.Table.{free_from, free_room, one_further, uses_room}
use Rattle.man_table.specs.Sweep.{end_here}
use Rattle.man_table.specs.Types.{End, SdoClientConnection}

-- the place of the first that passes, by that in the rest
one_more : (a n : ℕ) → cond (ltb (1 + a) (suc n)) (Some (1 + a)) None ≡ one_further (cond (ltb a n) (Some a) None)
one_more a n = go (ltb a n) refl
  where
    go : (b : Bool) → ltb a n ≡ b → cond (ltb (1 + a) (suc n)) (Some (1 + a)) None ≡ one_further (cond (ltb a n) (Some a) None)
    go true e =
        let l = ltb-true a n e in
        let f : 1 + a ≡ suc a = omega arith in
        rw (lt-ltb (1 + a) (suc n) (omega arith), e) (ap Some f)
    go false e = let l = ltb-false a n e in rw (le-ltb (1 + a) (suc n) (omega arith), e)

one_before : (f : Option ℕ) (n : ℕ) → unwrap_or (one_further f) (suc n) ≡ suc (unwrap_or f n)
one_before None n = refl
one_before (Some k) n = refl

module _ {X : Type 0} (p : X → Bool) where
  -- at the head, and past it
  at_head : (x : X) (l : List X) → p x ≡ true → position p (x ∷ l) ≡ Some 0
  at_head x l e = rw (e, lt-ltb 0 (suc (length l)) (omega arith))

  past_head : (x : X) (l : List X) → p x ≡ false → position p (x ∷ l) ≡ one_further (position p l)
  past_head x l e = rw e (one_more _ (length l))

  pub first_place : (F : List X → Option ℕ) → F [] ≡ None → ((x : X) (l : List X) → F (x ∷ l) ≡ pick (p x) (Some 0) (one_further (F l)))
      → (l : List X) → position p l ≡ F l
  unfolding pick
  first_place F none more [] = sym none
  first_place F none more (x ∷ l) = here (p x) refl (first_place F none more l)
    where
      here : (b : Bool) → p x ≡ b → position p l ≡ F l → position p (x ∷ l) ≡ F (x ∷ l)
      here true e h = rw (at_head x l e, more x l, e)
      here false e h = rw (past_head x l e, more x l, e, h)

  -- how many stand before it, or all
  pub before_first : (F : List X → ℕ) → F [] ≡ 0 → ((x : X) (l : List X) → F (x ∷ l) ≡ pick (p x) 0 (suc (F l)))
      → (l : List X) → unwrap_or (position p l) (length l) ≡ F l
  unfolding pick
  before_first F none more [] = sym none
  before_first F none more (x ∷ l) = here (p x) refl (before_first F none more l)
    where
      here : (b : Bool) → p x ≡ b → unwrap_or (position p l) (length l) ≡ F l → unwrap_or (position p (x ∷ l)) (suc (length l)) ≡ F (x ∷ l)
      here true e h = rw (at_head x l e, more x l, e)
      here false e h = rw (past_head x l e, more x l, e) (one_before (position p l) (length l) ∙ ap suc h)

  -- whether one passes
  pub one_passes : (F : List X → Bool) → F [] ≡ false → ((x : X) (l : List X) → F (x ∷ l) ≡ pick (p x) true (F l))
      → (l : List X) → list_any p l ≡ F l
  unfolding pick
  one_passes F none more [] = sym none
  one_passes F none more (x ∷ l) = here (p x) refl (one_passes F none more l)
    where
      here : (b : Bool) → p x ≡ b → list_any p l ≡ F l → list_any p (x ∷ l) ≡ F (x ∷ l)
      here true e h = rw (more x l, e)
      here false e h = rw (more x l, e) h

-- ---- free_room: what is found from the k-th on is what is found at all

abbrev pub Freeing : List SdoClientConnection → ℕ → Type 0
Freeing l k = free_room l ≡ free_from (8 - k) k l

pub freeing_none : (l : List SdoClientConnection) → Freeing l 0
unfolding free_room
freeing_none l = refl

module _ (l : List SdoClientConnection) (k : ℕ) (g : Freeing l k) (h : k < 8) where
  here : free_room l ≡ pick (uses_room (k * 4096) l) (free_from (8 - (k + 1)) (k + 1) l) (k * 4096)
  here =
      let e : 8 - k ≡ suc (8 - (k + 1)) = omega arith in
      let f : suc k ≡ k + 1 = omega arith in
      g ∙ rw (e, f)

  pub freeing_more : (r : Bool) → r ≡ uses_room (k * 4096) l → r ≡ true → Freeing l (k + 1)
  freeing_more r e f = here ∙ sym (holds _ _ e f refl)

  pub free_here : (r : Bool) → r ≡ uses_room (k * 4096) l → r ≡ false → k * 4096 ≡ free_room l
  free_here r e f = fails _ _ e f refl ∙ sym here

-- ---- the tests of `any_end` and `due`

pub end_or : (e : Option End) (b : Bool) → end_here e b ≡ pick (is_some e) true b
unfolding pick
end_or None b = refl
end_or (Some e) b = refl

pub pick_not : {A : Type 0} (t : Bool) (a b : A) → pick t a b ≡ pick (not t) b a
unfolding pick
pick_not true a b = refl
pick_not false a b = refl
