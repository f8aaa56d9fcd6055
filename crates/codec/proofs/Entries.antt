-- What the step's answer says of the readable entries from its cursor on: an entry is the first of them, and the next cursor, behind its 7 bytes and
-- its data, has the rest; else there is none, whether none is counted any more or one is not readable.
use Rattle.std.specs.Prelude.{Result, Ok, Err}
use Prim.Native.Nat.{ℕ, zero, suc, ◌+◌, ◌-◌, ◌<◌, ◌≤◌}
use native.Mathlib.Omega.{arith}
use mathlib.Core.Path.{◌≡◌, refl}
use mathlib.Core.Bool.{Bool, true, false}
use mathlib.Core.List.{[], ◌∷◌}
use lib.Dec.{ltb, leb}
use lib.ListN.{length, get_or, take, drop}
use borrow.Author.Tests.{ne_eqb, leb-true, ltb-true, ltb-false}
use Rattle.laws.specs.Pick.{pick}
use Rattle.codec.specs.Bytes.{Bytes, le16_at}
use Rattle.codec.specs.Dcf.{count_of, dcf_count, size_at, behind, sent_as, entries_from, dcf_step}
use Rattle.codec.specs.declared.dcf.DcfCursor.{DcfCursor}
use Rattle.codec.specs.declared.dcf.DcfStep.{DcfStep}
use Rattle.codec.specs.declared.refusal.Refusal.{Refusal}

abbrev pub Stepped : Bytes → ℕ → ℕ → DcfStep → Type 0
Stepped b at left (DcfStep.Entry entry next) =
    (entries_from left b at ≡ sent_as entry.index entry.sub_index (take entry.len (drop entry.start b)) ∷ entries_from next.left b next.at)
    × (left ≡ suc next.left)
    × (entry.start + entry.len ≤ length b)
    × (next.at ≡ at + 7 + entry.len)
Stepped b at left DcfStep.End = (entries_from left b at ≡ []) × (left ≡ 0)
Stepped b at left DcfStep.Unreadable = (entries_from left b at ≡ []) × (left ≡ 0 → ⊥)

step_at : (b : Bytes) (at left : ℕ) → Stepped b at left (dcf_step b (record { at = at; left = left }))
unfolding dcf_step pick
step_at b at zero = (refl, refl)
step_at b at (suc k) = rw (ne_eqb (suc k) 0 (λ z. omega arith)) (go (leb (at + 7) (length b)) (leb (behind b at) (length b)) refl refl)
  where
    less : suc k - 1 ≡ k
    less = omega arith

    go : (p q : Bool) → leb (at + 7) (length b) ≡ p → leb (behind b at) (length b) ≡ q
        → Stepped b at (suc k)
        (pick p
        (pick q
        (DcfStep.Entry
        (record { start = at + 7; len = size_at b at; index = le16_at b at; sub_index = get_or b (at + 2) 0 })
        (record { at = behind b at; left = suc k - 1 }))
        DcfStep.Unreadable)
        DcfStep.Unreadable)
    go false q e f = (rw e, λ z. omega arith)
    go true false e f = (rw (e, f), λ z. omega arith)
    go true true e f = (rw (e, f, less), omega arith, leb-true _ _ f, refl)

pub stepped : (b : Bytes) (c : DcfCursor) → Stepped b c.at c.left (dcf_step b c)
stepped b c = step_at b c.at c.left

-- what the count's answer says of the bytes
abbrev pub Counted : Bytes → Result ℕ Refusal → Type 0
Counted b (Ok n) = (4 ≤ length b) × (n ≡ count_of b)
Counted b (Err r) = length b < 4

pub counted : (b : Bytes) → Counted b (dcf_count b)
unfolding dcf_count pick
counted b = go (ltb (length b) 4) refl
  where
    go : (t : Bool) → ltb (length b) 4 ≡ t
        → Counted b (pick t (Err Refusal.DcfTooShort) (Ok (count_of b)))
    go true e = ltb-true _ _ e
    go false e = (ltb-false _ _ e, refl)

-- and the one refusal that it may give
pub count_refused : (b : Bytes) {r : Refusal} → Err r ≡ dcf_count b → r ≡ Refusal.DcfTooShort
unfolding dcf_count pick
count_refused b {r = r} = go (ltb (length b) 4)
  where
    go : (t : Bool) → Err r ≡ pick t (Err Refusal.DcfTooShort) (Ok (count_of b)) → r ≡ Refusal.DcfTooShort
    go true e = cc
    go false e = cc
