-- The table as a list: how many are held, and eight places that are filled from the front.
use Rattle.std.specs.Prelude.{Option, Some, None}
use Prim.Native.Nat.{ℕ, zero, suc, min, ◌+◌, ◌-◌, ◌≤◌, ◌<◌}
use mathlib.Core.Bool.{Bool, true, false}
use lib.Dec.{leb}
use borrow.Author.Tests.{leb-true, leb-false}
use native.Mathlib.Nat.{le_of_suc-le-suc}
use native.Mathlib.Omega.{arith}
use mathlib.Core.Path.{◌≡◌, refl, sym, ap, ◌∙◌}
use mathlib.Core.List.{List, [], ◌∷◌, ◌++◌, append_assoc, map}
use lib.ListN.{
  length,
  take,
  get_or,
  set,
  replicate,
  drop_of_length-le,
  length-append,
  length-map,
  length-set,
  get_or-eq_default,
}
use lib.Seq.{get_or-take, length-take-le, set-append_left, set_at, set_out, take_all}
use Rattle.laws.proofs.Answers.{told}
use Rattle.laws.proofs.Picks.{beyond, within}
use Rattle.con_rec.specs.Record.{new_connection}
use Rattle.man_table.proofs.Places.{found_held}
use Rattle.man_table.specs.Table.{target_at, target_of, connection_at}
use Rattle.man_table.specs.Table.{Lived, blank, find_in, free_room, live, padded, table_of}
use Rattle.man_table.specs.Types.{SdoClientConnection, SdoClientManager, Entry}

abbrev pub Connections : Type 0
Connections = List SdoClientConnection

-- the length of an array of structs, from what owning it tells
pub length_mapped : (A B : Type 0) (f : A → B) (l : List A) (n : ℕ) → length (map f l) ≡ n → length l ≡ n
length_mapped A B f l n p = sym (length-map l f) ∙ p

-- an element that is there is read, whatever stands for one that isn't
any_default : {A : Type 0} (l : List A) (i : ℕ) (a b : A) → i < length l → get_or l i a ≡ get_or l i b
any_default [] i a b h = absurd (omega arith)
any_default (x ∷ l) zero a b h = refl
any_default (x ∷ l) (suc i) a b h = any_default l i a b (le_of_suc-le-suc h)

-- the element at a place of eight, by its number, and past them
pub standing : (l : List SdoClientConnection) (place k : ℕ) (b : SdoClientConnection) → place ≡ k → length l ≡ 8 → k < 8
    → get_or l k b ≡ get_or l place blank
standing l place k b e n h = rw e (any_default l k b blank (omega (arith, n)))

-- a number that is none of eight
pub past_eight : (n : ℕ) → (n ≡ 0 → ⊥) → (n ≡ 1 → ⊥) → (n ≡ 2 → ⊥) → (n ≡ 3 → ⊥) → (n ≡ 4 → ⊥) → (n ≡ 5 → ⊥) → (n ≡ 6 → ⊥) → (n ≡ 7 → ⊥) → 8 ≤ n
past_eight zero h0 h1 h2 h3 h4 h5 h6 h7 = absurd (h0 refl)
past_eight (suc zero) h0 h1 h2 h3 h4 h5 h6 h7 = absurd (h1 refl)
past_eight (suc (suc zero)) h0 h1 h2 h3 h4 h5 h6 h7 = absurd (h2 refl)
past_eight (suc (suc (suc zero))) h0 h1 h2 h3 h4 h5 h6 h7 = absurd (h3 refl)
past_eight (suc (suc (suc (suc zero)))) h0 h1 h2 h3 h4 h5 h6 h7 = absurd (h4 refl)
past_eight (suc (suc (suc (suc (suc zero))))) h0 h1 h2 h3 h4 h5 h6 h7 = absurd (h5 refl)
past_eight (suc (suc (suc (suc (suc (suc zero)))))) h0 h1 h2 h3 h4 h5 h6 h7 = absurd (h6 refl)
past_eight (suc (suc (suc (suc (suc (suc (suc zero))))))) h0 h1 h2 h3 h4 h5 h6 h7 = absurd (h7 refl)
past_eight (suc (suc (suc (suc (suc (suc (suc (suc n)))))))) h0 h1 h2 h3 h4 h5 h6 h7 = omega arith

pub standing_past : (l : List SdoClientConnection) (place : ℕ) (b : SdoClientConnection) → length l ≡ 8 → 8 ≤ place → b ≡ blank
    → b ≡ get_or l place blank
standing_past l place b n h e = e ∙ sym (get_or-eq_default l blank (omega (arith, n)))

-- a list in eight places, with b after it
abbrev pub in_eight : {A : Type 0} → A → List A → List A
in_eight b l = l ++ replicate (8 - length l) b

module _ {A : Type 0} (b : A) (l : List A) (c : A) (k : ℕ) where
  -- the next element goes where the first b is
  pub push : k ≡ length l → k < 8 → set (in_eight b l) k c ≡ in_eight b (l ++ (c ∷ []))
  push q h =
      let e : 8 - length l ≡ suc (8 - (length l + 1)) = omega arith in
      let f : length (l ++ (c ∷ [])) ≡ length l + 1 = length-append l (c ∷ []) in
      rw (e, f, append_assoc) (set_at l b (replicate (8 - (length l + 1)) b) c k (sym q))

  -- another element in a place of the list
  put : k < length l → set (in_eight b l) k c ≡ in_eight b (set l k c)
  put h = rw length-set (set-append_left l (replicate (8 - length l) b) k c h)

-- how many are held: the count, and eight where the count says more
module _ (m : SdoClientManager) (e : length m.connections ≡ 8) where
  pub lived_least : Lived m (min m.count 8)
  lived_least = go (leb m.count 8) refl
    where
      go : (b : Bool) → leb m.count 8 ≡ b → Lived m (min m.count 8)
      go true f =
          let h = leb-true m.count 8 f in
          let k : min m.count 8 ≡ m.count = omega arith in
          rw k (record { most = h; front = refl; back = refl; all = e })
      go false f =
          let h = leb-false m.count 8 f in
          let k : min m.count 8 ≡ 8 = omega arith in
          let l = m.connections in
          let a : length l ≤ 8 = omega arith in
          let b : length l ≤ m.count = omega arith in
          rw k (record {
            most = omega arith;
            front = take_all 8 l a ∙ sym (take_all _ l b);
            back = drop_of_length-le l a ∙ sym (drop_of_length-le l b);
            all = e;
          })

module _ (m : SdoClientManager) (n : ℕ) (v : Lived m n) where
  pub live_length : length (live m) ≡ n
  live_length = rw (← v.front) (length-take-le n m.connections (omega arith))

  pub all_live : n ≤ length (live m)
  all_live = omega (arith, live_length)

  -- the connection at a place of those held, and past them
  pub held_here : (k : ℕ) (b : SdoClientConnection) → k < n → get_or m.connections k b ≡ get_or (live m) k blank
  held_here k b h =
      any_default m.connections k b blank (omega arith)
      ∙ rw (← v.front) (sym (get_or-take n m.connections k blank h))

  pub held_nowhere : (k : ℕ) (b : SdoClientConnection) → n ≤ k → b ≡ blank → b ≡ get_or (live m) k blank
  held_nowhere k b h e = e ∙ sym (get_or-eq_default (live m) blank (omega (arith, live_length)))

  -- the first n are all
  pub copied : (out : Connections) → out ≡ padded (take n (live m)) → out ≡ padded (live m)
  copied out e = e ∙ ap padded (take_all n (live m) (omega (arith, live_length)))

  -- another connection in a place of those held, and past them
  module _ (place : ℕ) (c : SdoClientConnection) (number : ℕ) (out : Connections) (e : out ≡ padded (take n (live m))) where
    pub replaced : place < n
        → ◌≡◌ {A = SdoClientManager} (record { connections = set out place c; count = n; next_transaction_id = number })
        (table_of (set (live m) place c) number)
    replaced h =
        let k : place < length (live m) = omega (arith, live_length) in
        let p : set out place c ≡ padded (set (live m) place c) = rw (copied out e) (put blank (live m) c place k) in
        let q : n ≡ length (set (live m) place c) = sym (length-set (live m) place c ∙ live_length) in
        rw (p, q)

    pub unreplaced : n ≤ place
        → ◌≡◌ {A = SdoClientManager} (record { connections = out; count = n; next_transaction_id = number })
        (table_of (set (live m) place c) number)
    unreplaced h =
        let k : length (live m) ≡ n = live_length in
        rw (set_out (live m) place c (omega arith), copied out e, k)

-- whose job a start is
module _ (m : SdoClientManager) (node : ℕ) (f : Option ℕ) (e : f ≡ find_in node (live m)) where
  pub target_held : (k : ℕ) (c : SdoClientConnection) → f ≡ Some k → c ≡ connection_at m k → Entry.At k c ≡ target_of m node
  unfolding target_of
  target_held k c g h = told (λ x. target_at x m node) e g (ap (Entry.At k) (h ∙ found_held m k f node e g))

  pub target_full : (n : ℕ) → f ≡ None → Lived m n → n ≡ 8 → Entry.Nowhere ≡ target_of m node
  unfolding target_of
  target_full n g v h =
      let k : 8 ≤ length (live m) = omega (arith, live_length m n v) in
      told (λ x. target_at x m node) e g (within _ _ 8 (length (live m)) k refl)

  pub target_new : (n room : ℕ) (c : SdoClientConnection) → f ≡ None → Lived m n → (n ≡ 8 → ⊥)
      → room ≡ free_room (live m) → c ≡ new_connection node room → Entry.New c ≡ target_of m node
  unfolding target_of
  target_new n room c g v h r d =
      let k : length (live m) < 8 = omega (arith, live_length m n v) in
      told (λ x. target_at x m node) e g (beyond _ _ 8 (length (live m)) k (rw (d, r)))
