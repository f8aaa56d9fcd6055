-- The parts of a transfer, for every total and in either mode (document 01, "Bytes"; document 02, CR 2): the first, and later ones until
-- nothing remains.
use Rattle.std.specs.Prelude.{ℕ, zero, suc, ◌+◌, ◌-◌, ◌/◌, ◌≡◌, List, [], ◌∷◌, ◌++◌, take, drop, Option, None}
use Rattle.codec.specs.Bytes.{Bytes}
use Rattle.con_rec.specs.Commands.{command_of}
use Rattle.con_rec.specs.Parts.{most, part_length, first_kind, first_size, later_kind}
use Rattle.con_rec.specs.Types.{Mode, Outgoing, Segmentation}

pub record Part : Type 0 where
  pub kind : Segmentation
  pub length : ℕ
  pub size : Option ℕ

abbrev pub first_of : Mode → ℕ → Part
first_of mode total = record { kind = first_kind mode total; length = part_length total; size = first_size mode total }

abbrev pub later_of : ℕ → Part
later_of rest = record { kind = later_kind rest; length = part_length rest; size = None }

-- so many later parts, of the bytes that remain; and how many it takes: 1452 in each, rounded up
abbrev pub later_parts : ℕ → ℕ → List Part
later_parts zero rest = []
later_parts (suc k) rest = later_of rest ∷ later_parts k (rest - part_length rest)

abbrev pub later_count : ℕ → ℕ
later_count rest = (rest + (most - 1)) / most

abbrev pub parts_of : Mode → ℕ → List Part
parts_of mode total =
    first_of mode total ∷ later_parts (later_count (total - part_length total)) (total - part_length total)

-- no Complete follows an Expedited
abbrev pub NoneFollows : List Part → Type 0
NoneFollows [] = Unit {0}
NoneFollows (p ∷ []) = Unit {0}
NoneFollows (p ∷ q ∷ ps) =
    (p.kind ≡ Segmentation.Expedited → q.kind ≡ Segmentation.Complete → ⊥) × NoneFollows (q ∷ ps)

-- the sum of the lengths; bytes cut at these lengths; and the pieces joined
abbrev pub lengths : List Part → ℕ
lengths [] = 0
lengths (p ∷ ps) = p.length + lengths ps

abbrev pub cut_at : List Part → Bytes → List Bytes
cut_at [] b = []
cut_at (p ∷ ps) b = take p.length b ∷ cut_at ps (drop p.length b)

abbrev pub joined_up : List Bytes → Bytes
joined_up [] = []
joined_up (b ∷ bs) = b ++ joined_up bs

-- a command that goes out as a part
abbrev pub part_of : Outgoing → Part
part_of o =
    record {
      kind = (command_of o).header.segmentation;
      length = (command_of o).header.segment_size;
      size = (command_of o).data_size;
    }
