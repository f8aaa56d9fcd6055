-- What a reader owns has in it what its DCF owns; and a local that holds a reader is what a loan of it lends.
use mathlib.Core.Path.{◌≡◌}
use Prim.Native.Nat.{ℕ}
use mathlib.Core.List.{List, [], ◌∷◌}
use lib.ListN.{length}
use seplogic.Ra.Ura.{Ura}
use base.Fraction.{full_share}
use mir.Syntax.{named, erased, w8}
use mir.Val.{Val}
use base.Logic.{ent, sep}
use base.Fml.{Lft, Share, Fml, ftrue, fsep, fat, flft}
use types.Logic.{Logic, sem}
use types.Kit.{Item, ‵, ◌⊛◌, given, ◌$◌, ◌∵◌, !, qed, move, drop, use1, split, learn, fsplit, fjoin, fpick, fpack, frame, done}
use denote.Builtin.{u8}
use denote.Laws.{Is, shows}
use denote.Memory.{cell_at, part_at, part_of}
use denote.Plain.{uint_row_laws}
use denote.Ref.{Bor, NamedLft}
use denote.Slice.{slice_val, ShrSlice, shr_slice_copy}
use denote.Struct.Declared.{Declared}
use denote.Struct.Laws as LL
use denote.Struct.Rest.{all_own, field_own, rest, own_open, own_out}
use denote.Struct.Steps.{spelt}
use denote.Struct.Values.{Values}
use Rattle.codec.specs.declared.dcf.DcfCursor.{DcfCursor}
use Rattle.codec_reader.specs.declared.DcfReader.{DcfReader}
use Rattle.codec_reader.specs.contracts.DcfReader as T
use Rattle.codec_reader.proofs.DcfReader.TheLaws as T'

-- the token of a signature's one lifetime
abbrev pub Tok : {M : Type 1} (𝓤 : Ura M) → Lft → Share → Item 𝓤
Tok 𝓤 κ q = ‵ (flft κ q) ⊛ ‵ ftrue

-- the machine value of a DCF, and what it owns: for each lifetime, whatever its name. It can be had twice
abbrev pub slice : Bor (List ℕ) → Val
slice s = slice_val s.ref_ptr (length s.now)

abbrev pub OfDcf : Lft → Bor (List ℕ) → Fml
OfDcf κ s = (ShrSlice (named 0) κ u8).own_val s (slice s ∷ [])

abbrev pub OfReader : NamedLft → DcfReader → Fml
OfReader α d = (T.the_row α).own_val d (T'.lowered d ∷ [])

-- the reader of a DCF at a place
abbrev pub made : Bor (List ℕ) → DcfCursor → DcfReader
made s c = record { dcf = s; place = c }

module _ {M : Type 1} {𝓤 : Ura M} (𝓛 : Logic 𝓤) (κ : Lft) (s : Bor (List ℕ)) where
  pub twice : ent 𝓤 (sem 𝓛 (OfDcf κ s)) (sep 𝓤 (sem 𝓛 (OfDcf κ s)) (sem 𝓛 (OfDcf κ s)))
  twice = (shr_slice_copy 𝓛 (named 0) κ u8 (uint_row_laws w8)).twice s (slice s ∷ [])

module _ {M : Type 1} {𝓤 : Ura M} (𝓛 : Logic 𝓤) (α : NamedLft) (d : DcfReader) where
  open 𝓛 use {H}

  abbrev D : Declared
  D = T.the_type α

  abbrev L : LL.Laws D
  L = T'.the_laws α

  abbrev fields : Values D.parts
  fields = (d.dcf, (d.place, tt))

  pub dcf_of_lem : ent 𝓤 (sem 𝓛 (OfReader α d)) (sem 𝓛 (OfDcf α.lft d.dcf))
  dcf_of_lem =
      qed 𝓛 (‵ (OfReader α d) ∷ []) ∵
      use1 𝓛 (given (T'.lowered d ∷ [] ≡ T'.lowered d ∷ []) (‵ (all_own D.parts L fields))) (own_open 𝓛 D L fields (T'.lowered d)) $ learn ! (λ _.
      use1 𝓛 (‵ (field_own D.parts L 0 d.dcf) ⊛ ‵ (rest D.parts L 0 fields)) (own_out 𝓛 D.parts L 0 fields) $ split ! $
      move ! (1 ∷ []) $ drop ! $ done !)

  -- a local's cell, whose type has no lifetime's name, with what the reader in it owns; and the two apart again
  module _ (l : ℕ) where
    pub cell_in : ent 𝓤 (sep 𝓤 (H.at full_share (T'.mir erased) l 0 (T'.lowered d)) (sem 𝓛 (OfReader α d))) (sem 𝓛 (part_at (T.the_row α) full_share d l 0))
    unfolding part_of
    cell_in =
        qed 𝓛 (‵ (fat full_share (T'.mir erased) l 0 (T'.lowered d)) ∷ ‵ (OfReader α d) ∷ []) ∵
        use1 𝓛 (‵ (cell_at full_share (T.the_row α).mir (T'.lowered d ∷ []) l 0)) (𝓛.laws.at_raw full_share (T'.mir erased) l 0 (T'.lowered d)) $ fjoin ! $
        fpack ! (List Val) (λ vs. fsep (cell_at full_share (T.the_row α).mir vs l 0) ((T.the_row α).own_val d vs)) (T'.lowered d ∷ []) $ done !

    pub cell_out : ent 𝓤 (sem 𝓛 (part_at (T.the_row α) full_share d l 0)) (sep 𝓤 (H.at full_share (T'.mir erased) l 0 (T'.lowered d)) (sem 𝓛 (OfReader α d)))
    unfolding part_of
    cell_out =
        qed 𝓛 (‵ (part_at (T.the_row α) full_share d l 0) ∷ []) {P = sep 𝓤 (H.at full_share (T'.mir erased) l 0 (T'.lowered d)) (sem 𝓛 (OfReader α d))} (
        fpick ! (λ vs. fsplit ! $ spelt ! (T.the_row α) (Is (T.the_row α)) (shows 𝓛 (T.the_row α)) (LL.vals D L) (LL.tells D L) full_share d vs l 0 $
        use1 𝓛 (‵ (fat full_share (T'.mir erased) l 0 (T'.lowered d))) (𝓛.laws.raw_at full_share (T'.mir erased) l 0 (T'.lowered d)) $ frame ! $ done !))
