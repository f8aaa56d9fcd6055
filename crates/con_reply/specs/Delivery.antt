-- Demand 3's words: of what was sent, drop the openings (timeout repeats and aborts are tick's, and are not logged), cut at each Expedited
-- or Initiate, join the payloads. Where a job ended Complete or Cut, this is its readable entries, each once, in order, the delivered
-- figure is their number, and it is Complete exactly when all counted entries are readable. At any other moment it is a beginning of
-- that, the last entry perhaps in part.
use Rattle.std.specs.Prelude.{ℕ, ◌≡◌, Bool, true, false, List, [], ◌∷◌, ◌++◌, eqb, length, take, Option, Some, None}
use Rattle.codec.specs.Bytes.{Bytes}
use Rattle.codec.specs.Command.{command_number}
use Rattle.connection.specs.Types.{CommandId, Reason, Segmentation}
use Rattle.con_reply.specs.Sent.{Sent}

-- Drop openings: an opening is a Nil command, whose number is 0.
abbrev pub is_opening : CommandId → Bool
is_opening id = eqb (command_number id) 0

abbrev pub unless : Bool → Sent → List Sent → List Sent
unless true s rest = rest
unless false s rest = s ∷ rest

abbrev pub without_openings : List Sent → List Sent
without_openings [] = []
without_openings (s ∷ rest) = unless (is_opening s.id) s (without_openings rest)

-- the last of the pieces made longer; where there is none, a first one
abbrev pub longer : List Bytes → Bytes → List Bytes
longer [] p = p ∷ []
longer (x ∷ []) p = (x ++ p) ∷ []
longer (x ∷ y ∷ l) p = x ∷ longer (y ∷ l) p

-- Cut at each Expedited or Initiate: these begin a piece, the others go on with the last one.
abbrev pub with_part : Segmentation → List Bytes → Bytes → List Bytes
with_part Segmentation.Expedited l p = l ++ (p ∷ [])
with_part Segmentation.Initiate l p = l ++ (p ∷ [])
with_part Segmentation.Segment l p = longer l p
with_part Segmentation.Complete l p = longer l p

abbrev pub pieces_after : List Bytes → List Sent → List Bytes
pieces_after l [] = l
pieces_after l (s ∷ rest) = pieces_after (with_part s.kind l s.payload) rest

abbrev pub pieces : List Sent → List Bytes
pieces sent = pieces_after [] (without_openings sent)

-- whole entries in order, and then perhaps a beginning of the next
pub data Beginning : List Bytes → List Bytes → Type 0 where
  nothing : {es : List Bytes} → Beginning [] es
  part : {p e : Bytes} {es : List Bytes} (k : ℕ) → p ≡ take k e → Beginning (p ∷ []) (e ∷ es)
  whole : {e : Bytes} {ps es : List Bytes} → Beginning ps es → Beginning (e ∷ ps) (e ∷ es)

-- what a job with these entries, of which `count` are counted, must have sent where it ended, with a delivered figure
abbrev pub ForEnd : List Bytes → ℕ → List Bytes → Reason → ℕ → Type 0
ForEnd entries count got Reason.Complete figure =
    (got ≡ entries) × (figure ≡ length entries) × (length entries ≡ count)
ForEnd entries count got Reason.Cut figure =
    (got ≡ entries) × (figure ≡ length entries) × (length entries ≡ count → ⊥)
ForEnd entries count got Reason.OpenRefused figure = Beginning got entries
ForEnd entries count got Reason.Sequence figure = Beginning got entries
ForEnd entries count got (Reason.PeerAborted code) figure = Beginning got entries
ForEnd entries count got Reason.Timeout figure = Beginning got entries
ForEnd entries count got Reason.BadSegment figure = Beginning got entries

abbrev pub For : List Bytes → ℕ → List Bytes → Option Reason → ℕ → Type 0
For entries count got None figure = Beginning got entries
For entries count got (Some why) figure = ForEnd entries count got why figure
