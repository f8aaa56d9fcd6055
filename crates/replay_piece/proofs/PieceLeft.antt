-- A piece on its way: what is left of it brings the run to where the whole piece brings it.
use Prim.Native.Nat.{ℕ, zero, suc, min, ◌+◌, ◌<◌, ◌≤◌}
use native.Mathlib.Omega.{arith}
use mathlib.Core.Path.{◌≡◌, refl, sym, ap, subst, ◌∙◌}
use mathlib.Core.Bool.{true, false}
use mathlib.Core.List.{[], ◌∷◌, ◌++◌}
use lib.ListN.{length, take, drop}
use Rattle.std.proofs.Math.Seq.{take-append_seam, drop-append_seam}
use Rattle.std.proofs.lemmas.List.{drop_min, length-append, nil_from_length, take_min}
use Rattle.laws.specs.Pick.{pick}
use Rattle.codec.specs.Bytes.{Bytes}
use Rattle.theorems.specs.InPlace.{Neat}
use Rattle.replay_piece.specs.Piece.{Stand, after_record, replayed, stops}
use Rattle.replay_piece.specs.Types.{Settings}

-- the slices are as long as they were at first
pub record Sized (first s : Stand) : Type 0 where
  pub store : length s.store ≡ length first.store
  pub gather : length s.gather ≡ length first.gather
  pub output : length s.output ≡ length first.output
  pub text : length s.text ≡ length first.text

-- enough records are left for the bytes that are left of the piece's
pub record Going (settings : Settings) (first total : Stand) (bytes : ℕ) (left : Bytes) (s : Stand) : Type 0 where
  pub records : ℕ
  pub enough : length left ≤ records
  pub same : replayed settings records s left ≡ total
  pub read : s.run.progress.read + length left ≡ bytes
  pub neat : Neat s.run.manager
  pub sized : Sized first s

module _ (settings : Settings) where
  -- nothing is left, or the run stops
  none_left : (k : ℕ) (s : Stand) → replayed settings k s [] ≡ s
  unfolding replayed
  none_left zero s = refl
  none_left (suc k) s = refl

  stop_here : (k : ℕ) (s : Stand) (l : Bytes) → stops s ≡ true → replayed settings k s l ≡ s
  unfolding replayed pick
  stop_here zero s l e = refl
  stop_here (suc k) s [] e = refl
  stop_here (suc k) s (x ∷ l) e = rw e

  -- one record of those that are left
  one_more_lem : (k : ℕ) (s : Stand) (l : Bytes) → 0 < length l → length l ≤ k → stops s ≡ false
      → (j : ℕ) × (suc j ≡ k) × (replayed settings k s l ≡ replayed settings j (after_record settings s (take 32 l)) (drop 32 l))
  unfolding replayed pick
  one_more_lem zero s l h f e = absurd (omega arith)
  one_more_lem (suc k) s [] h f e = absurd (omega arith)
  one_more_lem (suc k) s (x ∷ l) h f e = (k, refl, rw e)

  module _ {first total : Stand} {bytes : ℕ} {left : Bytes} {s : Stand} (g : Going settings first total bytes left s) where
    pub going_ends : length left ≡ 0 → s ≡ total
    going_ends h =
        sym (none_left g.records s) ∙ ap (replayed settings g.records s) (sym (nil_from_length left h)) ∙ g.same

    pub going_stops : stops s ≡ true → s ≡ total
    going_stops e = sym (stop_here g.records s left e) ∙ g.same

    -- a record is cut off in front: 32 bytes, or what is left
    module _ (b rest : Bytes) (cut : left ≡ b ++ rest) (size : length b ≡ min 32 (length left)) (more : 0 < length left) where
      parts : (b ≡ take 32 left) × (rest ≡ drop 32 left)
      parts = (
        sym (take-append_seam b rest) ∙ (λ i. take (size i) (sym cut i)) ∙ take_min 32 left,
        sym (drop-append_seam b rest) ∙ (λ i. drop (size i) (sym cut i)) ∙ drop_min 32 left,
      )

      pub going_on : {t : Stand} → stops s ≡ false → Neat (after_record settings s b).run.manager → Sized first t → t ≡ after_record settings s b
          → Going settings first total bytes rest t
      unfolding after_record
      going_on {t} e neat z f =
          let l = ap length cut ∙ length-append b rest in
          let k = g.enough in
          let r = g.read in
          let q : t.run.progress.read ≡ s.run.progress.read + length b = ap (λ (x : Stand). x.run.progress.read) f in
          let x = one_more_lem g.records s left more k e in
          let here : t ≡ after_record settings s (take 32 left) = f ∙ ap (after_record settings s) parts.0 in
          let fuel = x.1 in
          record {
            records = x.0;
            enough = omega (arith, size);
            same = (λ i. replayed settings x.0 (here i) (parts.1 i)) ∙ sym x.2 ∙ g.same;
            read = omega (arith, q);
            neat = subst (λ (x : Stand). Neat x.run.manager) (sym f) neat;
            sized = z;
          }

pub going_begins : (settings : Settings) (s : Stand) (input : Bytes) → Neat s.run.manager → s.run.progress.read ≡ 0
    → Going settings s (replayed settings (length input) s input) (length input) input s
going_begins settings s input neat e =
    record {
      records = length input;
      enough = omega arith;
      same = refl;
      read = omega (arith, e);
      neat = neat;
      sized = record { store = refl; gather = refl; output = refl; text = refl };
    }
