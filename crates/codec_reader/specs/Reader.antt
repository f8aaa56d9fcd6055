-- A reader: a lent DCF, with the place in it that the reader is at.
use Rattle.std.specs.Prelude.{List, ℕ}
use Rattle.std.specs.Borrow.{Bor}
use Rattle.codec.specs.Dcf.{dcf_step}
use Rattle.codec.specs.declared.dcf.DcfStep.{DcfStep}
use Rattle.codec_reader.specs.Place.{first_place, past}
use Rattle.codec_reader.specs.declared.DcfReader.{DcfReader}

-- a reader of a DCF, at its first entry
abbrev pub reader_of : Bor (List ℕ) → DcfReader
reader_of dcf = record { dcf = dcf; place = first_place dcf.now }

-- what stands at a reader's place
abbrev pub found_by : DcfReader → DcfStep
found_by r = dcf_step r.dcf.now r.place

-- a reader after its next entry: the same DCF, past an entry, and else where it was
abbrev pub moved_on : DcfReader → DcfReader
moved_on r = record { dcf = r.dcf; place = past r.place (found_by r) }
