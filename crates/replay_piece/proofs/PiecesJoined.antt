-- What a host prints by pieces is what the whole says. At each step what was written, the text so far and the lines of what is left are all lines.
use Prim.Native.Nat.{ℕ, zero, suc, ◌+◌, ◌*◌, ◌<◌, ◌≤◌}
use native.Mathlib.Nat.{suc-add, zero-add}
use native.Mathlib.Omega.{arith}
use mathlib.Core.Path.{◌≡◌, refl, sym, ap, subst, ◌∙◌}
use mathlib.Core.Bool.{Bool, true, false}
use mathlib.Core.List.{List, [], ◌∷◌, ◌++◌, append_assoc, append-nil}
use mathlib.Core.Logic.{◌⊎◌, ⊎_elim, inl, inr}
use lib.Dec.{eqb, leb, ltb}
use lib.ListN.{length, take, drop, length-append, length-take, drop_of_length-le}
use lib.Seq.{drop-drop, length-take-le, take_at, take-nil, take-take}
use borrow.Author.Tests.{eqb-true, eqb-false, leb-true, leb-false, ltb-false, le-ltb}
use Rattle.laws.proofs.Choices.{decided}
use Rattle.laws.specs.Pick.{pick}
use Rattle.codec.specs.Bytes.{Bytes, placed}
use Rattle.man_table.specs.Sweep.{running}
use Rattle.man_table.specs.Table.{live, table_of}
use Rattle.theorems.specs.InPlace.{InPlace, Neat}
use Rattle.theorems.proofs.InPlace.{in_place_lem}
use Rattle.theorems.proofs.Neat.{swept_neat}
use Rattle.replay_piece.specs.Piece.{Stand, after_record, begun, replayed, state_of, stops}
use Rattle.replay_piece.specs.Pieces.{AllRead, HostStand, NoneRead, PiecesJoin, Room, Step, after_step, after_steps, begins, passed, passes, prints, text_of}
use Rattle.replay_piece.specs.Types.{SdoClientManager, Settings}
use Rattle.replay_piece.specs.Whole.{State, asked, first, line, lines_from, lines_with, next}
use Rattle.replay_piece.proofs.OneRecord.{granted_neat}

-- a line put behind the text, however long it is
text_placed : (text added : Bytes) (at : ℕ) → at ≤ length text → take (at + length added) (placed text at added) ≡ take at text ++ added
unfolding placed
text_placed text added at h =
    take_at (take at text ++ added) (drop (at + length added) text) (at + length added) (rw (length-append, length-take-le at text h))

-- records ahead of others: the rest of what was taken, and of what is left
rest_taken : (n m : ℕ) (l : Bytes) → drop n (take (n + m) l) ≡ take m (drop n l)
rest_taken zero m l = rw zero-add
rest_taken (suc n) m [] = rw (take-nil (suc n + m)) (sym (take-nil m))
rest_taken (suc n) m (x ∷ l) = rw suc-add (rest_taken n m l)

rest_left : (n m : ℕ) (l : Bytes) → drop m (drop n l) ≡ drop (length (take n l) + m) l
rest_left n m l = go (leb n (length l)) refl
  where
    go : (b : Bool) → leb n (length l) ≡ b → drop m (drop n l) ≡ drop (length (take n l) + m) l
    go true e = rw (length-take-le n l (leb-true n (length l) e)) (drop-drop m n l)
    go false e =
        let h = leb-false n (length l) e in
        let k = length-take n l in
        drop-drop m n l ∙ drop_of_length-le l {i = n + m} (omega arith) ∙ sym (drop_of_length-le l {i = length (take n l) + m} (omega arith))

-- a run that goes on has read fewer records, and has room for a line
goes : (a b : Bool) → pick a true b ≡ false → (a ≡ false) × (b ≡ false)
unfolding pick
goes true b e = let z : ◌≡◌ {A = ℕ} 0 1 = cc e in absurd (omega arith)
goes false b e = (refl, e)

module _ (settings : Settings) (lines : Bytes) where
  record Ahead (printed : Bytes) (s : Stand) (left : Bytes) : Type 0 where
    most : ℕ
    few : s.run.progress.number + most ≡ 65535
    same : printed ++ text_of s ++ lines_from settings most (state_of s) left ≡ lines
    neat : Neat s.run.manager

  told : (s : Stand) (b : Bytes) → s.run.progress.text ≤ length s.text
      → text_of (after_record settings s b) ≡ text_of s ++ line settings (state_of s) b
  unfolding after_record
  told s b h = text_placed s.text (line settings (state_of s) b) s.run.progress.text h

  stands : (s : Stand) (b : Bytes) → state_of (after_record settings s b) ≡ next settings (state_of s) b
  unfolding after_record next
  stands s b = refl

  after_neat : (s : Stand) (b : Bytes) → Neat s.run.manager → Neat (after_record settings s b).run.manager
  unfolding after_record
  after_neat s b h = granted_neat s.run.manager h s.store s.output (asked settings (state_of s) b).request

  module _ (printed : Bytes) where
    -- one record of those that are left
    line_ahead : (most : ℕ) (s : Stand) (left : Bytes) → 0 < length left → s.run.progress.text ≤ length s.text
        → printed ++ text_of s ++ lines_from settings (suc most) (state_of s) left ≡ lines
        → printed ++ text_of (after_record settings s (take 32 left))
        ++ lines_from settings most (state_of (after_record settings s (take 32 left))) (drop 32 left)
        ≡ lines
    unfolding lines_from
    line_ahead most s [] h room e = absurd (omega arith)
    line_ahead most s (x ∷ l) h room e =
        let b : Bytes = take 32 (x ∷ l) in
        let rest : Bytes = lines_from settings most (next settings (state_of s) b) (drop 32 (x ∷ l)) in
        let shift : printed ++ (text_of s ++ line settings (state_of s) b) ++ rest ≡ printed ++ text_of s ++ (line settings (state_of s) b ++ rest) =
        simp append_assoc in
        ap (λ (t : State). printed ++ text_of (after_record settings s b) ++ lines_from settings most t (drop 32 (x ∷ l))) (stands s b)
        ∙ ap (λ (t : Bytes). printed ++ t ++ rest) (told s b room) ∙ shift ∙ e

    record_ahead : (s : Stand) (left : Bytes) → 0 < length left → stops s ≡ false → Ahead printed s left
        → Ahead printed (after_record settings s (take 32 left)) (drop 32 left)
    unfolding after_record
    record_ahead s left h e a =
        let t = goes (eqb s.run.progress.number 65535) (ltb (length s.text) (s.run.progress.text + 8211)) e in
        let n = eqb-false s.run.progress.number 65535 t.0 in
        let room = ltb-false (length s.text) (s.run.progress.text + 8211) t.1 in
        go a.most a.few a.same n room
      where
        go : (most : ℕ) → s.run.progress.number + most ≡ 65535
            → printed ++ text_of s ++ lines_from settings most (state_of s) left ≡ lines
            → (s.run.progress.number ≡ 65535 → ⊥) → s.run.progress.text + 8211 ≤ length s.text
            → Ahead printed (after_record settings s (take 32 left)) (drop 32 left)
        go zero f g n room = absurd (n (omega arith))
        go (suc m) f g n room =
            record {
              most = m;
              few = omega arith;
              same = line_ahead m s left h (omega arith) g;
              neat = after_neat s (take 32 left) a.neat;
            }

    -- a piece: so many bytes are read, and some where it can go on
    record Through (s : Stand) (piece left : Bytes) (k : ℕ) (t : Stand) : Type 0 where
      bytes : ℕ
      read : t.run.progress.read ≡ s.run.progress.read + bytes
      ahead : Ahead printed t (drop bytes left)
      some : stops s ≡ false → 0 < length piece → length piece ≤ k → 0 < bytes

    record_on : (s : Stand) (left : Bytes) {piece rest : Bytes} {k j : ℕ} {t : Stand} → 0 < length left
        → Through (after_record settings s (take 32 left)) rest (drop 32 left) j t → Through s piece left k t
    unfolding after_record
    record_on s left {t = t} h x =
        let r : t.run.progress.read ≡ s.run.progress.read + length (take 32 left) + x.bytes = x.read in
        let n = length-take 32 left in
        record {
          bytes = length (take 32 left) + x.bytes;
          read = omega arith;
          ahead = subst (Ahead printed t) (rest_left 32 x.bytes left) x.ahead;
          some = λ f p q. omega arith;
        }

    replay_on : (k records : ℕ) (s : Stand) (left piece : Bytes) → piece ≡ take (records * 32) left → Ahead printed s left
        → Through s piece left k (replayed settings k s piece)
    unfolding replayed
    replay_on zero records s left piece e a =
        record { bytes = 0; read = omega arith; ahead = a; some = λ f g h. absurd (omega arith) }
    replay_on (suc k) records s left [] e a =
        record { bytes = 0; read = omega arith; ahead = a; some = λ f g h. absurd (omega arith) }
    replay_on (suc k) zero s left (x ∷ piece) e a =
        let n = ap length e ∙ length-take (0 * 32) left in absurd (omega arith)
    replay_on (suc k) (suc records) s left (x ∷ piece) e a =
        let long = ap length e ∙ length-take (suc records * 32) left in
        let head : take 32 (x ∷ piece) ≡ take 32 left = ap (take 32) e ∙ take-take 32 (suc records * 32) left (omega arith) in
        let many : suc records * 32 ≡ 32 + records * 32 = omega arith in
        let rest : drop 32 (x ∷ piece) ≡ take (records * 32) (drop 32 left) =
        ap (drop 32) e ∙ ap (λ n. drop 32 (take n left)) many ∙ rest_taken 32 (records * 32) left in
        decided (Through s (x ∷ piece) left (suc k)) (stops s) s _
        (λ f. record { bytes = 0; read = omega arith; ahead = a; some = λ g p q. let z : ◌≡◌ {A = ℕ} 0 1 = cc in absurd (omega arith) })
        (λ f.
        subst (λ (b : Bytes). Through s (x ∷ piece) left (suc k) (replayed settings k (after_record settings s b) (drop 32 (x ∷ piece)))) (sym head)
        (record_on s left (omega arith)
        (replay_on k records (after_record settings s (take 32 left)) (drop 32 left) (drop 32 (x ∷ piece)) rest
        (record_ahead s left (omega arith) f a))))

  -- a call of `replay_piece`: the sweep at its beginning changes nothing
  abbrev Held : HostStand → Type 0
  Held h = Ahead h.printed h.stand h.left

  abbrev swept : HostStand → Stand
  swept h = begun h.stand.run h.stand.store h.stand.gather h.stand.output h.stand.text

  swept_ahead : (h : HostStand) → Held h → Ahead h.printed (swept h) h.left
  unfolding InPlace
  swept_ahead h a =
      let s : Stand = h.stand in
      let m : SdoClientManager = s.run.manager in
      let e : table_of (running (live m)) m.next_transaction_id ≡ m = in_place_lem.1 m a.neat in
      record {
        most = a.most;
        few = a.few;
        same =
            subst
            (λ (k : SdoClientManager).
            h.printed ++ text_of s
            ++ lines_from settings a.most
            (record {
              manager = k;
              store = s.store;
              gathered = s.run.progress.gathered;
              gather = s.gather;
              output = s.output;
              number = s.run.progress.number;
            })
            h.left
            ≡ lines)
            (sym e) a.same;
        neat = subst Neat (sym e) a.neat;
      }

  call_on : (h : HostStand) (records : ℕ) → Held h
      → let piece : Bytes = take (records * 32) h.left in
      Through h.printed (swept h) piece h.left (length piece) (passed settings h records)
  unfolding passed
  call_on h records a =
      let piece : Bytes = take (records * 32) h.left in
      replay_on h.printed (length piece) records (swept h) h.left piece refl (swept_ahead h a)

  step_held : (h : HostStand) (x : Step) → Held h → Held (after_step settings h x)
  step_held h (passes records) a =
      let t = call_on h records a in
      let n : t.bytes ≡ (passed settings h records).run.progress.read = omega (arith, t.read) in
      subst (λ (k : ℕ). Ahead h.printed (passed settings h records) (drop k h.left)) n t.ahead
  step_held h prints a =
      record { most = a.most; few = a.few; same = rw append-nil a.same; neat = a.neat }

  steps_held : (steps : List Step) (h : HostStand) → Held h → Held (after_steps settings h steps)
  unfolding after_steps
  steps_held [] h a = a
  steps_held (x ∷ steps) h a = steps_held steps (after_step settings h x) (step_held h x a)

  -- nothing is left, or no record more is read
  no_lines : (most : ℕ) (s : State) (left : Bytes) → (left ≡ []) ⊎ (most ≡ 0) → lines_from settings most s left ≡ []
  unfolding lines_from
  no_lines zero s left e = refl
  no_lines (suc most) s [] e = refl
  no_lines (suc most) s (x ∷ left) e =
      ⊎_elim (λ f. let z : ◌≡◌ {A = ℕ} 0 1 = cc f in absurd (omega arith)) (λ f. absurd (omega arith)) e

  all_read : (h : HostStand) → Held h → AllRead h → h.printed ++ text_of h.stand ≡ lines
  all_read h a r =
      let none : lines_from settings a.most (state_of h.stand) h.left ≡ [] =
      no_lines a.most (state_of h.stand) h.left (⊎_elim inl (λ e. inr (omega (arith, a.few))) r) in
      sym (append-nil (h.printed ++ text_of h.stand))
      ∙ ap (λ (l : Bytes). h.printed ++ text_of h.stand ++ l) (sym none) ∙ a.same

  -- a call that has room for a line and reads nothing
  stops_not : (h : HostStand) → eqb h.stand.run.progress.number 65535 ≡ false → Room h → stops (swept h) ≡ false
  unfolding pick
  stops_not h f room = rw (f, le-ltb (length h.stand.text) (h.stand.run.progress.text + 8211) room)

  reads_some : (h : HostStand) (records : ℕ) → Held h → Room h → 0 < length (take (records * 32) h.left)
      → (passed settings h records).run.progress.read ≡ 0 → AllRead h
  reads_some h records a room some e = go (eqb h.stand.run.progress.number 65535) refl
    where
      go : (b : Bool) → eqb h.stand.run.progress.number 65535 ≡ b → AllRead h
      go true f = inr (eqb-true _ _ f)
      go false f =
          let t = call_on h records a in
          let n = t.some (stops_not h f room) some (omega arith) in
          absurd (omega (arith, t.read))

first_neat : Neat first.manager
unfolding first
first_neat = swept_neat [] 0

first_few : first.number + 65535 ≡ 65535
unfolding first
first_few = refl

first_held : (settings : Settings) (input text : Bytes) → Held settings (lines_with settings input) (begins input text)
first_held settings input text = record { most = 65535; few = first_few; same = refl; neat = first_neat }

module _ (settings : Settings) (input text : Bytes) (steps : List Step) where
  any_steps : Held settings (lines_with settings input) (after_steps settings (begins input text) steps)
  any_steps = steps_held settings (lines_with settings input) steps (begins input text) (first_held settings input text)

pub pieces_join : PiecesJoin
unfolding PiecesJoin
pieces_join settings input text steps =
    all_read settings (lines_with settings input) (after_steps settings (begins input text) steps)
    (any_steps settings input text steps)

pub none_read : NoneRead
unfolding NoneRead
none_read settings input text steps records =
    reads_some settings (lines_with settings input) (after_steps settings (begins input text) steps) records
    (any_steps settings input text steps)
