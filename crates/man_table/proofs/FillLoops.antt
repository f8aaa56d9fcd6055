-- Loops that fill eight places from the connections of a table, and the one that blanks the places past the first of them. The invariant of
-- those that fill: the places hold, from the front, what the connections passed come to.
use Rattle.std.specs.Prelude.{Option, Some, None}
use Rattle.std.specs.Option.{is_some}
use Rattle.std.proofs.lemmas.Bool.{false≢true}
use Prim.Native.Nat.{ℕ, suc, ◌+◌, ◌-◌, ◌≤◌, ◌<◌}
use native.Mathlib.Numerals.{add-one}
use native.Mathlib.Omega.{arith}
use mathlib.Core.Path.{◌≡◌, refl, sym, ap, ◌∙◌}
use mathlib.Core.Bool.{Bool, true, false}
use mathlib.Core.List.{List, [], ◌∷◌, ◌++◌, append_assoc, append-nil}
use lib.ListN.{length, take, get_or, set, replicate, length-append, length-set, length-take, replicate-append-replicate}
use lib.Seq.{length-take-le, take_all, take-suc, take-suc-set, take-take}
use Rattle.laws.proofs.Answers.{told}
use Rattle.con_rec.specs.Record.{end_of}
use Rattle.man_table.specs.Sweep.{any_end, end_here, ends_in, ends_of, no_ends, running, unless_end, with_end}
use Rattle.man_table.specs.Table.{Lived, blank, live, padded, table_of}
use Rattle.man_table.specs.Types.{End, Ends, SdoClientConnection, SdoClientManager}
use Rattle.man_table.proofs.Tables.{Connections, copied, in_eight, live_length, push}

-- the first i connections passed, and k of eight places filled with what they come to
pub record Filling {E : Type 0} (all : Connections → List E) (b : E) (old : Connections) (out : List E) (k i : ℕ) : Type 0 where
  pub most : length old ≤ 8
  pub few : k + length old ≤ 8 + i
  pub count : k ≡ length (all (take i old))
  pub filled : out ≡ in_eight b (all (take i old))

module _ {E : Type 0} (all : Connections → List E) (b : E) (old : Connections) (out : List E) where
  module _ (k i : ℕ) (d : SdoClientConnection) (g : Filling all b old out k i) (l : i < length old) where
    taken : take (i + 1) old ≡ take i old ++ (get_or old i d ∷ [])
    taken = rw (add-one, take-suc old i d l)

    -- a connection that comes to one element more
    pub fill : (e : E) → all (take i old ++ (get_or old i d ∷ [])) ≡ all (take i old) ++ (e ∷ [])
        → Filling all b old (set out k e) (k + 1) (i + 1)
    fill e s =
        let t : all (take (i + 1) old) ≡ all (take i old) ++ (e ∷ []) = ap all taken ∙ s in
        record {
          most = g.most;
          few = omega arith;
          count = rw (t, length-append) (omega arith);
          filled = rw (g.filled, t) (push b (all (take i old)) e k g.count (omega arith));
        }

    -- a connection that comes to nothing
    pub pass : all (take i old ++ (get_or old i d ∷ [])) ≡ all (take i old) → Filling all b old out k (i + 1)
    pass s =
        let t : all (take (i + 1) old) ≡ all (take i old) = ap all taken ∙ s in
        record { most = g.most; few = omega arith; count = rw t g.count; filled = rw t g.filled }

-- ---- swept and ends_of: `one` is what a connection comes to by the end that it reports

module _ {E : Type 0} (all : Connections → List E) (one : Option End → SdoClientConnection → List E) where
  module _ (none : all [] ≡ []) (more : (c : SdoClientConnection) (l : Connections) → all (c ∷ l) ≡ one (end_of c) c ++ all l) where
    each : (l : Connections) (c : SdoClientConnection) → all (l ++ (c ∷ [])) ≡ all l ++ one (end_of c) c
    each [] c = more c [] ∙ rw (none, append-nil)
    each (x ∷ l) c = more x (l ++ (c ∷ [])) ∙ rw (each l c, more x l, append_assoc)

  module _ (each : (l : Connections) (c : SdoClientConnection) → all (l ++ (c ∷ [])) ≡ all l ++ one (end_of c) c)
      (b : E) (old : Connections) (out : List E) (k i : ℕ) (d : SdoClientConnection)
      (g : Filling all b old out k i) (l : i < length old) (r f : Option End) (e : r ≡ end_of (get_or old i d)) (w : r ≡ f) where
    next : all (take i old ++ (get_or old i d ∷ [])) ≡ all (take i old) ++ one f (get_or old i d)
    next = let c = get_or old i d in each (take i old) c ∙ sym (told (λ x. all (take i old) ++ one x c) e w refl)

    pub adds : (x : E) → one f (get_or old i d) ≡ x ∷ [] → Filling all b old (set out k x) (k + 1) (i + 1)
    adds x o = fill all b old out k i d g l x (next ∙ rw o)

    pub skips : one f (get_or old i d) ≡ [] → Filling all b old out k (i + 1)
    skips o = pass all b old out k i d g l (next ∙ rw o (append-nil (all (take i old))))

-- those that run on
abbrev pub kept : Option End → SdoClientConnection → Connections
kept e c = unless_end e c []

pub each_kept : (l : Connections) (c : SdoClientConnection) → running (l ++ (c ∷ [])) ≡ running l ++ kept (end_of c) c
each_kept = each running kept refl (λ c l. joined (end_of c) c (running l))
  where
    joined : (e : Option End) (c : SdoClientConnection) (l : Connections) → unless_end e c l ≡ kept e c ++ l
    joined None c l = refl
    joined (Some e) c l = refl

-- one that ended comes to nothing, one that runs on to itself
module _ (e : Option End) (s : Bool) (c : SdoClientConnection) (told : s ≡ is_some e) where
  pub gone : s ≡ true → kept e c ≡ []
  gone h = go e (sym told ∙ h)
    where
      go : (e : Option End) → is_some e ≡ true → kept e c ≡ []
      go None h = absurd (false≢true h)
      go (Some e) h = refl

  pub stays : s ≡ false → kept e c ≡ c ∷ []
  stays h = go e (sym told ∙ h)
    where
      go : (e : Option End) → is_some e ≡ false → kept e c ≡ c ∷ []
      go None h = refl
      go (Some e) h = absurd (false≢true (sym h))

-- the ends of those that ended
abbrev pub reported : Option End → SdoClientConnection → List End
reported e c = with_end e []

pub each_reported : (l : Connections) (c : SdoClientConnection) → ends_in (l ++ (c ∷ [])) ≡ ends_in l ++ reported (end_of c) c
each_reported = each ends_in reported refl (λ c l. joined (end_of c) c (ends_in l))
  where
    joined : (e : Option End) (c : SdoClientConnection) (l : List End) → with_end e l ≡ reported e c ++ l
    joined None c l = refl
    joined (Some e) c l = refl

-- ---- nothing ended: all run on, and there is no end

module _ (A : Type 0) (one : Option End → A → A) (x : A) (l : Connections) where
  none_here : (y : A) (e : Option End) → end_here e (any_end l) ≡ false → (any_end l ≡ false → one None x ≡ y) → one e x ≡ y
  none_here y None h so = so h
  none_here y (Some e) h so = let z : ◌≡◌ {A = ℕ} 0 1 = cc h in absurd (omega arith)

pub none_swept : (l : Connections) → any_end l ≡ false → running l ≡ l
none_swept [] h = refl
none_swept (c ∷ l) h = none_here _ (λ e r. unless_end e c r) (running l) l (c ∷ l) (end_of c) h (λ f. rw (none_swept l f))

pub none_reported : (l : Connections) → any_end l ≡ false → ends_in l ≡ []
none_reported [] h = refl
none_reported (c ∷ l) h = none_here _ with_end (ends_in l) l [] (end_of c) h (none_reported l)

module _ (m : SdoClientManager) (any : Bool) (q : any ≡ any_end (live m)) (h : any ≡ false) where
  pub unswept : (n : ℕ) (out : Connections) → Lived m n → out ≡ padded (take n (live m))
      → ◌≡◌ {A = SdoClientManager} (record { connections = out; count = n; next_transaction_id = m.next_transaction_id })
      (table_of (running (live m)) m.next_transaction_id)
  unswept n out v e =
      let k : length (live m) ≡ n = live_length m n v in
      rw (none_swept (live m) (sym q ∙ h), copied m n v out e, k)

  pub unreported : (e : Ends) → e ≡ no_ends → e ≡ ends_of (ends_in (live m))
  unreported e f = f ∙ ap ends_of (sym (none_reported (live m) (sym q ∙ h)))

-- ---- first_of: the places from the n-th on are blank, up to the i-th

pub record Blanking (old : Connections) (n : ℕ) (out : Connections) (i : ℕ) : Type 0 where
  pub from : n ≤ i
  pub most : i ≤ 8
  pub all : length out ≡ 8
  pub so : take i out ≡ take n old ++ replicate (i - n) blank

pub blanking_more : (old : Connections) (n : ℕ) (out : Connections) (i : ℕ) (b : SdoClientConnection) → Blanking old n out i → i < 8
    → b ≡ blank → Blanking old n (set out i b) (i + 1)
blanking_more old n out i b g l e =
    let k : suc i - n ≡ (i - n) + 1 = omega arith in
    record {
      from = omega arith;
      most = omega arith;
      all = rw length-set g.all;
      so =
          rw (add-one, take-suc-set out i b (omega arith), g.so, e, append_assoc, k, ← replicate-append-replicate (i - n) 1 blank);
    }

module _ (m : SdoClientManager) (n : ℕ) (h : n ≤ length (live m)) where
  few_live : (n ≤ m.count) × (n ≤ length m.connections)
  few_live = let e = length-take m.count m.connections in (omega arith, omega arith)

  pub blanking_none : length m.connections ≡ 8 → Blanking m.connections n m.connections n
  blanking_none a =
      let w = few_live in
      let z : n - n ≡ 0 = omega arith in
      record { from = omega arith; most = omega arith; all = a; so = rw (z, append-nil) }

  pub blanked : (i : ℕ) (out : Connections) → Blanking m.connections n out i → 8 ≤ i → out ≡ padded (take n (live m))
  blanked i out g l =
      let e : i ≡ 8 = omega arith in
      let a : length (take n (live m)) ≡ n = length-take-le n (live m) h in
      let t : take n (live m) ≡ take n m.connections = take-take n m.count m.connections few_live.0 in
      let o : take i out ≡ out = take_all i out (omega arith) in
      sym o ∙ g.so ∙ rw (a, t, e)
