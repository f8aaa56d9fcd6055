-- Both sides of each edge (document 01): the table of the cases marked P, P1 to P10, and the totals P1 to P6 in published mode (document 02,
-- CR 2); and what the definitions make of each.
use Rattle.std.specs.Prelude.{ℕ, List, [], ◌∷◌, eqb, length, Some, None, Result, Ok}
use Rattle.codec.specs.declared.refusal.Refusal.{Refusal}
use Rattle.codec.specs.declared.sequence.SequenceLayerHeader.{SequenceLayerHeader}
use Rattle.laws.specs.Pick.{pick}
use Rattle.codec.specs.Bytes.{Bytes}
use Rattle.codec.specs.Dcf.{count_of, readable_entries}
use Rattle.codec.specs.Sequence.{sequence_read}
use Rattle.codec.specs.declared.command.Segmentation.{Segmentation}
use Rattle.codec.specs.declared.sequence.ReceiveConnState.{ReceiveConnState}
use Rattle.codec.specs.declared.sequence.SendConnState.{SendConnState}
use Rattle.con_rec.specs.PartsOf.{Part, parts_of}
use Rattle.con_rec.specs.declared.Mode.{Mode}

-- a DCF is Complete exactly when all counted entries are readable, else Cut
pub data Ending : Type 0 where
  complete : Ending
  cut : Ending

abbrev pub ending_of : Bytes → Ending
ending_of b = pick (eqb (length (readable_entries b)) (count_of b)) complete cut

-- a case, with what is found there: the parts of a total in a mode, the entries of a DCF, a sequence header
pub data Edge : Type 0 where
  total : Mode → ℕ → List Part → Edge
  dcf : Bytes → List Bytes → Ending → Edge
  sequence : Bytes → Result SequenceLayerHeader Refusal → Edge

-- a part with no data size, and one with it
abbrev pub part : Segmentation → ℕ → Part
part kind length = record { kind = kind; length = length; size = None }

abbrev pub initiate : ℕ → ℕ → Part
initiate length size = record { kind = Segmentation.Initiate; length = length; size = Some size }

abbrev pub p7 : Bytes
p7 =
    0x02 ∷ 0x00 ∷ 0x00 ∷ 0x00
    ∷ 0x00 ∷ 0x21 ∷ 0x01 ∷ 0x02 ∷ 0x00 ∷ 0x00 ∷ 0x00 ∷ 0x01 ∷ 0x04
    ∷ 0x01 ∷ 0x21 ∷ 0x00 ∷ 0x00 ∷ 0x00 ∷ 0x00 ∷ 0x00 ∷ []

-- its last byte dropped
abbrev pub p8 : Bytes
p8 =
    0x02 ∷ 0x00 ∷ 0x00 ∷ 0x00
    ∷ 0x00 ∷ 0x21 ∷ 0x01 ∷ 0x02 ∷ 0x00 ∷ 0x00 ∷ 0x00 ∷ 0x01 ∷ 0x04
    ∷ 0x01 ∷ 0x21 ∷ 0x00 ∷ 0x00 ∷ 0x00 ∷ 0x00 ∷ []

-- the two entries as they are sent
abbrev pub first : Bytes
first = 0x00 ∷ 0x21 ∷ 0x01 ∷ 0x00 ∷ 0x01 ∷ 0x04 ∷ []

abbrev pub second : Bytes
second = 0x01 ∷ 0x21 ∷ 0x00 ∷ 0x00 ∷ []

abbrev pub table : List Edge
table =
    total Mode.Repository 1452 (part Segmentation.Expedited 1452 ∷ [])
    ∷ total Mode.Repository 1453 (part Segmentation.Expedited 1452 ∷ part Segmentation.Complete 1 ∷ [])
    ∷ total Mode.Repository 1456 (part Segmentation.Expedited 1452 ∷ part Segmentation.Complete 4 ∷ [])
    ∷ total Mode.Repository 1457 (initiate 1452 1453 ∷ part Segmentation.Complete 5 ∷ [])
    ∷ total Mode.Repository 2904 (initiate 1452 2900 ∷ part Segmentation.Complete 1452 ∷ [])
    ∷ total Mode.Repository 2905 (initiate 1452 2901 ∷ part Segmentation.Segment 1452 ∷ part Segmentation.Complete 1 ∷ [])
    ∷ dcf p7 (first ∷ second ∷ []) complete
    ∷ dcf p8 (first ∷ []) cut
    ∷ dcf (0x00 ∷ 0x00 ∷ 0x00 ∷ 0x00 ∷ []) [] complete
    ∷ sequence (0xFE ∷ 0x00 ∷ 0x00 ∷ 0x00 ∷ [])
    (Ok
    (record {
      receive_sequence_number = 63;
      receive_con = ReceiveConnState.ConnectionValid;
      send_sequence_number = 0;
      send_con = SendConnState.NoConnection;
    }))
    ∷ []

-- the same totals in published mode: what one part doesn't hold begins with an Initiate
abbrev pub published : List Edge
published =
    total Mode.Published 1452 (part Segmentation.Expedited 1452 ∷ [])
    ∷ total Mode.Published 1453 (initiate 1452 1449 ∷ part Segmentation.Complete 1 ∷ [])
    ∷ total Mode.Published 1456 (initiate 1452 1452 ∷ part Segmentation.Complete 4 ∷ [])
    ∷ total Mode.Published 1457 (initiate 1452 1453 ∷ part Segmentation.Complete 5 ∷ [])
    ∷ total Mode.Published 2904 (initiate 1452 2900 ∷ part Segmentation.Complete 1452 ∷ [])
    ∷ total Mode.Published 2905 (initiate 1452 2901 ∷ part Segmentation.Segment 1452 ∷ part Segmentation.Complete 1 ∷ [])
    ∷ []

-- the case as the definitions make it
abbrev pub made : Edge → Edge
made (total mode n parts) = total mode n (parts_of mode n)
made (dcf b entries ending) = dcf b (readable_entries b) (ending_of b)
made (sequence b read) = sequence b (sequence_read b)
