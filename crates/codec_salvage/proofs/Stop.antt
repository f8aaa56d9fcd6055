-- Where a reader of a DCF stops: behind the entries that are readable, with those that are not still counted.
use Rattle.std.specs.Prelude.{Result, Ok, Err}
use Rattle.codec.specs.declared.refusal.Refusal.{Refusal}
use Prim.Native.Nat.{ℕ, zero, suc, ◌+◌, ◌≤◌}
use native.Mathlib.Nat.{add-zero}
use native.Mathlib.Omega.{arith}
use mathlib.Core.Path.{◌≡◌, sym, ◌∙◌}
use mathlib.Core.List.{List}
use lib.ListN.{length, take, drop, length-append, length-drop}
use lib.Seq.{length-take-le, take_all, take-length, take-nil}
use Rattle.codec.specs.Bytes.{Bytes}
use Rattle.codec.specs.Dcf.{count_of, dcf_count, dcf_step, readable_entries, sent_as}
use Rattle.codec.specs.declared.dcf.DcfCursor.{DcfCursor}
use Rattle.codec.specs.declared.dcf.DcfStep.{DcfStep}
use Rattle.codec.proofs.Entries.{Stepped as Found, stepped, Counted, counted as counted-so}
use Rattle.codec_reader.specs.Place.{counted, entry_of, first_place, past, place_after}
use Rattle.codec_reader.proofs.Places.{one_more}
use Rattle.codec_reader.proofs.Readable.{first, from}
use Rattle.codec_salvage.specs.Salvage.{stored, stored_as}

-- a place that lies behind some entries, as many fewer of them counted
abbrev Behind : DcfCursor → List Bytes → DcfCursor → Type 0
Behind c es d = (d.at ≡ c.at + length (stored es)) × (d.left + length es ≡ c.left)

-- n steps lead behind the first n of the entries from a place on
steps_lead : (n : ℕ) (b : Bytes) (c : DcfCursor) → Behind c (take n (from b c)) (place_after n b c)
steps_lead zero b c = (sym (add-zero c.at), add-zero c.left)
steps_lead (suc n) b c = go (dcf_step b c) (stepped b c) (steps_lead n b (past c (dcf_step b c)))
  where
    go : (t : DcfStep) → Found b c.at c.left t → Behind (past c t) (take n (from b (past c t))) (place_after n b (past c t))
        → Behind c (take (suc n) (from b c)) (place_after n b (past c t))
    go (DcfStep.Entry entry next) h i =
        let l : length (take entry.len (drop entry.start b)) ≡ entry.len = length-take-le entry.len (drop entry.start b) (rw length-drop (omega (arith, h.2))) in
        let s = length-append (stored_as (sent_as entry.index entry.sub_index (take entry.len (drop entry.start b)))) (stored (take n (from b next))) in
        rw h.0 (omega (arith, h.3, i.0, l, s), omega (arith, h.1, i.1))
    go DcfStep.End h i = rw h.0 (rw (h.0, take-nil n) at i)
    go DcfStep.Unreadable h i = rw h.0 (rw (h.0, take-nil n) at i)

-- no more entries are readable than are counted
few : (b : Bytes) (c : DcfCursor) → length (from b c) ≤ c.left
few b c = let i = (steps_lead (length (from b c)) b c).1 in omega (arith, rw take-length at i)

pub few_counted : (b : Bytes) → length (readable_entries b) ≤ count_of b
few_counted b = few b (record { at = 4; left = count_of b })

-- a DCF that is long enough for its count
module _ (b : Bytes) (enough : 4 ≤ length b) where
  all_counted : (first_place b).left ≡ count_of b
  all_counted = go (dcf_count b) (counted-so b)
    where
      go : (k : Result ℕ Refusal) → Counted b k → counted k ≡ count_of b
      go (Ok n) h = h.1
      go (Err r) h = absurd (omega arith)

  -- what a reader finds that looks for the entry behind all that are counted
  pub stop : Behind (record { at = 4; left = count_of b }) (readable_entries b) (entry_of b (count_of b)).place
  stop =
      let n : ℕ = suc (count_of b) in
      let all : take n (from b (first_place b)) ≡ readable_entries b = rw (first b) (take_all n (readable_entries b) (omega (arith, few_counted b))) in
      let i = steps_lead n b (first_place b) in
      let j = rw all at i in
      rw (one_more (count_of b) b (first_place b)) (j.0, j.1 ∙ all_counted)
