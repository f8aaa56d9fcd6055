-- Places in a concise DCF (document 01, "Bytes"), as codec's cursor has them: where the next entry begins, and how many are still counted.
use Rattle.std.specs.Prelude.{ℕ, zero, suc, Result, Ok, Err}
use Rattle.codec.specs.declared.refusal.Refusal.{Refusal}
use Rattle.codec.specs.Bytes.{Bytes}
use Rattle.codec.specs.Dcf.{dcf_count, dcf_step}
use Rattle.codec.specs.declared.dcf.DcfCursor.{DcfCursor}
use Rattle.codec.specs.declared.dcf.DcfStep.{DcfStep}
use Rattle.codec_reader.specs.declared.Stepped.{Stepped}

-- how many entries a count says: none where the DCF is too short for one
abbrev pub counted : Result ℕ Refusal → ℕ
counted (Ok n) = n
counted (Err r) = 0

-- the first entry's place
abbrev pub first_place : Bytes → DcfCursor
first_place b = record { at = 4; left = counted (dcf_count b) }

-- the place after a step from c: past an entry, and else where it was
abbrev pub past : DcfCursor → DcfStep → DcfCursor
past c (DcfStep.Entry entry next) = next
past c DcfStep.End = c
past c DcfStep.Unreadable = c

-- a step from c, and the place after it
abbrev pub stepped_by : DcfCursor → DcfStep → Stepped
stepped_by c found = record { found = found; place = past c found }

abbrev pub stepped_from : Bytes → DcfCursor → Stepped
stepped_from b c = stepped_by c (dcf_step b c)

-- the place after n steps
abbrev pub place_after : ℕ → Bytes → DcfCursor → DcfCursor
place_after zero b c = c
place_after (suc n) b c = place_after n b (past c (dcf_step b c))

-- the place of the n-th entry, counted from 0; where fewer are readable, the place behind the last that is
abbrev pub place_of : Bytes → ℕ → DcfCursor
place_of b n = place_after n b (first_place b)

-- the n-th readable entry, and the place after it; where there is none, what stands behind the last that is readable, End or Unreadable, and that place
abbrev pub entry_of : Bytes → ℕ → Stepped
entry_of b n = stepped_from b (place_of b n)
