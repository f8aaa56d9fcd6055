-- A concise DCF repaired (document 02, CR 3): a DCF holding the readable entries unchanged and in order, its count set to their number, nothing after
-- them; old count, new count, bytes dropped and the offset of the first dropped byte. Refusals: 5 under four bytes, then 7 over 4,096, then 1 where the
-- repaired DCF does not fit the output. A refused call writes nothing.
use Rattle.std.specs.Prelude.{ℕ, ◌-◌, List, [], ◌∷◌, ◌++◌, ltb, leb, eqb, length, take, drop, Option, Some, None, Result, Ok, Err}
use Rattle.laws.specs.Pick.{pick}
use Rattle.codec.specs.Bytes.{Bytes, le32}
use Rattle.codec.specs.Dcf.{count_of, readable_entries}
use Rattle.codec.specs.Writing.{buffer_after}
use Rattle.codec.specs.declared.refusal.Refusal.{Refusal}
use Rattle.codec_salvage.specs.declared.Salvaged.{Salvaged}

-- An entry as a DCF holds it: index (2), sub-index (1), size (4), data. It is given as the bytes that are sent: index, sub-index, 0, data.
abbrev pub stored_as : Bytes → Bytes
stored_as entry = take 3 entry ++ (le32 (length (drop 4 entry)) ++ drop 4 entry)

abbrev pub stored : List Bytes → Bytes
stored [] = []
stored (e ∷ es) = stored_as e ++ stored es

-- the DCF of some entries: their number, then each of them, and nothing after
abbrev pub dcf_of : List Bytes → Bytes
dcf_of entries = le32 (length entries) ++ stored entries

-- the repaired DCF
unfoldable pub repaired : Bytes → Bytes
repaired dcf = dcf_of (readable_entries dcf)

-- the bytes dropped, and the offset of the first: the repaired DCF is a beginning of the old one but for its count (Repair's `kept`)
abbrev pub dropped : Bytes → ℕ
dropped dcf = length dcf - length (repaired dcf)

abbrev pub first_of : ℕ → ℕ → Option ℕ
first_of n at = pick (eqb n 0) None (Some at)

abbrev pub first_dropped : Bytes → Option ℕ
first_dropped dcf = first_of (dropped dcf) (length (repaired dcf))

-- what is told of a repair
unfoldable pub told_of : Bytes → Salvaged
told_of dcf =
    record {
      old_count = count_of dcf;
      new_count = length (readable_entries dcf);
      length = length (repaired dcf);
      dropped = dropped dcf;
      first_dropped = first_dropped dcf;
    }

-- the longest DCF that is repaired
abbrev pub most_salvaged : ℕ
most_salvaged = 4096

-- the answer
unfoldable pub salvaged : Bytes → Bytes → Result Salvaged Refusal
salvaged dcf output =
    pick (ltb (length dcf) 4) (Err Refusal.DcfTooShort)
    (pick (ltb most_salvaged (length dcf)) (Err Refusal.NoRoom)
    (pick (leb (length (repaired dcf)) (length output)) (Ok (told_of dcf))
    (Err Refusal.BufferTooShort)))

-- the output as it is left: the repaired DCF at its start, where it fits, and the rest as it was
unfoldable pub output_after : Bytes → Bytes → Bytes
output_after dcf output =
    pick (ltb (length dcf) 4) output (pick (ltb most_salvaged (length dcf)) output (buffer_after (repaired dcf) output))
