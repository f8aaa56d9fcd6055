-- What `entry_of` finds is the n-th of the readable entries (document 01, "Bytes"), counted from 0; End and Unreadable mean that there are
-- no more than n.
use Rattle.std.specs.Prelude.{Result, Ok, Err}
use Rattle.codec.specs.declared.refusal.Refusal.{Refusal}
use Prim.Native.Nat.{ℕ, zero, suc, ◌+◌, ◌≤◌}
use native.Mathlib.Omega.{arith}
use mathlib.Core.Path.{◌≡◌, refl, sym, ap, ◌∙◌}
use mathlib.Core.List.{List, [], ◌∷◌}
use lib.ListN.{length, take, drop}
use lib.Seq.{drop-nil}
use borrow.Author.Tests.{lt-leb}
use Rattle.laws.specs.Pick.{pick}
use Rattle.codec.specs.Bytes.{Bytes}
use Rattle.codec.specs.Dcf.{count_of, dcf_count, dcf_step, entries_from, readable_entries, sent_as}
use Rattle.codec.specs.declared.dcf.DcfCursor.{DcfCursor}
use Rattle.codec.specs.declared.dcf.DcfStep.{DcfStep}
use Rattle.codec.proofs.Entries.{Stepped as Found, stepped, Counted, counted as counted-so}
use Rattle.codec_reader.specs.Place.{counted, first_place, past, place_after, place_of, entry_of}

-- a step's answer, of a list of entries: the first of them, whose data lie within the bytes; or that there is none
abbrev pub First : Bytes → List Bytes → DcfStep → Type 0
First b es (DcfStep.Entry entry next) =
    (es ≡ sent_as entry.index entry.sub_index (take entry.len (drop entry.start b)) ∷ drop 1 es) × (entry.start + entry.len ≤ length b)
First b es DcfStep.End = es ≡ []
First b es DcfStep.Unreadable = es ≡ []

-- the readable entries from a place on
abbrev pub from : Bytes → DcfCursor → List Bytes
from b c = entries_from c.left b c.at

-- one step leaves out the first entry, and n steps the first n
one_step : (n : ℕ) (b : Bytes) (c : DcfCursor) (t : DcfStep) → Found b c.at c.left t → drop n (from b (past c t)) ≡ drop (suc n) (from b c)
one_step n b c (DcfStep.Entry entry next) h = rw h.0
one_step n b c DcfStep.End h = rw (h.0, drop-nil n)
one_step n b c DcfStep.Unreadable h = rw (h.0, drop-nil n)

steps : (n : ℕ) (b : Bytes) (c : DcfCursor) → from b (place_after n b c) ≡ drop n (from b c)
steps zero b c = refl
steps (suc n) b c = steps n b (past c (dcf_step b c)) ∙ one_step n b c (dcf_step b c) (stepped b c)

-- from the first entry's place on they are the readable entries
none : (b : Bytes) (k : ℕ) → length b ≤ 3 → entries_from k b 4 ≡ []
unfolding pick
none b zero h = refl
none b (suc k) h = rw (lt-leb (4 + 7) (length b) (omega arith))

pub first : (b : Bytes) → from b (first_place b) ≡ readable_entries b
first b = go (dcf_count b) (counted-so b)
  where
    go : (k : Result ℕ Refusal) → Counted b k → entries_from (counted k) b 4 ≡ readable_entries b
    go (Ok n) h = rw h.1
    go (Err r) h = sym (none b (count_of b) (omega arith))

found : (b : Bytes) (c : DcfCursor) → First b (from b c) (dcf_step b c)
found b c = go (dcf_step b c) (stepped b c)
  where
    go : (t : DcfStep) → Found b c.at c.left t → First b (from b c) t
    go (DcfStep.Entry entry next) h =
        let sent = sent_as entry.index entry.sub_index (take entry.len (drop entry.start b)) in
        (h.0 ∙ ap (λ (es : List Bytes). sent ∷ drop 1 es) (sym h.0), h.2)
    go DcfStep.End h = h.0
    go DcfStep.Unreadable h = h.0

pub entry_of_readable : (b : Bytes) (n : ℕ) → First b (drop n (readable_entries b)) (entry_of b n).found
entry_of_readable b n = rw (← first b, ← steps n b (first_place b)) (found b (place_of b n))
