-- What successive calls of `next_entry` give, from a reader of a DCF on: its readable entries (document 01, "Bytes"), one after another, and then End
-- or Unreadable for ever.
use Rattle.std.specs.Prelude.{ℕ, zero, suc, ◌≤◌, ◌≡◌, List, [], ◌∷◌, length, take}
use Rattle.std.specs.Borrow.{Bor}
use Rattle.codec.specs.Bytes.{Bytes, part_at}
use Rattle.codec.specs.Dcf.{dcf_count, readable_entries, sent_as}
use Rattle.codec.specs.declared.dcf.DcfStep.{DcfStep}
use Rattle.codec_reader.specs.Place.{counted}
use Rattle.codec_reader.specs.Reader.{found_by, moved_on, reader_of}
use Rattle.codec_reader.specs.declared.DcfReader.{DcfReader}

-- a reader after n calls
abbrev pub after_calls : ℕ → DcfReader → DcfReader
after_calls zero r = r
after_calls (suc n) r = after_calls n (moved_on r)

-- the entries that n calls find, one after another, each as the bytes that are sent: index, sub-index, 0, and the part of the DCF that is its data
abbrev pub with_found : Bytes → DcfStep → List Bytes → List Bytes
with_found b (DcfStep.Entry entry next) more = sent_as entry.index entry.sub_index (part_at b entry.start entry.len) ∷ more
with_found b DcfStep.End more = more
with_found b DcfStep.Unreadable more = more

abbrev pub found_in : ℕ → DcfReader → List Bytes
found_in zero r = []
found_in (suc n) r = with_found r.dcf.now (found_by r) (found_in n (moved_on r))

-- no entry any more: End exactly when all that are counted were read
abbrev pub Stopped : Type 0 → DcfStep → Type 0
Stopped all (DcfStep.Entry entry next) = ⊥
Stopped all DcfStep.End = all
Stopped all DcfStep.Unreadable = all → ⊥

-- n calls find the first n readable entries. When all are found, and for ever after, a call does not move the reader, and it answers End where as many
-- entries were readable as the DCF counts (a DCF under four bytes counts none), and else Unreadable.
pub record ReadsAll (dcf : Bor (List ℕ)) : Type 0 where
  pub found : (n : ℕ) → found_in n (reader_of dcf) ≡ take n (readable_entries dcf.now)
  pub stays : (n : ℕ) → length (readable_entries dcf.now) ≤ n → moved_on (after_calls n (reader_of dcf)) ≡ after_calls n (reader_of dcf)
  pub stops : (n : ℕ) → length (readable_entries dcf.now) ≤ n
      → Stopped (counted (dcf_count dcf.now) ≡ length (readable_entries dcf.now)) (found_by (after_calls n (reader_of dcf)))
