-- The parts of a transfer (document 01, "Bytes"): an entry or a write is sent by WriteByIndex as index, sub-index, 0, data; its length is
-- the total. First part: min(total, 1452) bytes, Expedited if total ≤ limit, else Initiate with data size total - 4. Later parts:
-- Complete if at most 1452 remain, else Segment. The limit is that of the job's mode.
use Rattle.std.specs.Prelude.{ℕ, ◌+◌, ◌-◌, min, Bool, leb, take, drop, Option, Some, None}
use Rattle.laws.specs.Pick.{pick}
use Rattle.codec.specs.Bytes.{Bytes}
use Rattle.codec.specs.Dcf.{sent_as}
use Rattle.con_rec.specs.Types.{Mode, Segmentation, Transfer}

-- the most bytes of a part
abbrev pub most : ℕ
most = 1452

-- the largest total that goes Expedited: 1456, and in published mode what one part holds (document 02, CR 2)
abbrev pub limit : Mode → ℕ
limit Mode.Repository = 1456
limit Mode.Published = most

-- a transfer's bytes as they are sent, from the bytes of its room
abbrev pub wire : Bytes → Transfer → Bytes
wire room t = sent_as t.index t.sub_index (take t.len (drop t.start room))

abbrev pub total : Transfer → ℕ
total t = 4 + t.len

abbrev pub part_length : ℕ → ℕ
part_length rest = min rest most

abbrev pub goes_expedited : Mode → ℕ → Bool
goes_expedited mode n = leb n (limit mode)

abbrev pub first_kind : Mode → ℕ → Segmentation
first_kind mode n = pick (goes_expedited mode n) Segmentation.Expedited Segmentation.Initiate

abbrev pub first_size : Mode → ℕ → Option ℕ
first_size mode n = pick (goes_expedited mode n) None (Some (n - 4))

abbrev pub later_kind : ℕ → Segmentation
later_kind rest = pick (leb rest most) Segmentation.Complete Segmentation.Segment
