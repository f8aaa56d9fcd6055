-- What is true of a repaired DCF: `Repairs` (specs/Repair), of every DCF.
use Prim.Native.Nat.{ℕ, ◌+◌, ◌<◌}
use native.Mathlib.Omega.{arith}
use mathlib.Core.Path.{◌≡◌, refl, sym, ap, subst, ◌∙◌}
use mathlib.Core.List.{List, [], ◌∷◌, ◌++◌, append-nil}
use lib.ListN.{length, drop, length-append, drop_of_length-le}
use Rattle.codec.specs.Bytes.{Bytes, le32}
use Rattle.codec.specs.Dcf.{count_of, readable_entries, sent_as}
use Rattle.codec.proofs.RoundTrips.{four_bytes}
use Rattle.codec_salvage.specs.Repair.{Octets, Repairs, Whole, taken}
use Rattle.codec_salvage.specs.Salvage.{dcf_of, repaired, stored, stored_as}
use Rattle.codec_salvage.proofs.ReadBack.{AllFormed, all_formed, reads_back}
use Rattle.codec_salvage.proofs.Stop.{few_counted}
use Rattle.codec_salvage.proofs.Stored.{all_lie, four_at}
use Rattle.codec_salvage.proofs.Told.{no_longer}

-- the bytes that entries take
pub takes : (es : List Bytes) → AllFormed es → length (stored es) ≡ taken es
takes [] h = refl
takes (e ∷ es) h =
    let f = h.0 in
    let i = takes es h.1 in
    rw (f.is, length-append (stored_as (sent_as f.index f.sub f.bytes)) (stored es)) (omega arith)

-- the DCF of entries, of which there are no more than a count can say
module _ (es : List Bytes) (few : length es < 4294967296) (formed : AllFormed es) where
  count_back : count_of (dcf_of es) ≡ length es
  count_back = four_bytes (length es) few

  entries_back : readable_entries (dcf_of es) ≡ es
  entries_back = rw count_back (reads_back (le32 (length es)) es formed)

  whole_of : Whole (dcf_of es)
  whole_of =
      record {
        counted = rw entries_back count_back;
        alone = rw entries_back (omega (arith, takes es formed));
      }

module _ (dcf : Bytes) (o : Octets dcf) where
  abbrev es : List Bytes
  es = readable_entries dcf

  formed : AllFormed es
  formed = all_formed (count_of dcf) dcf 4 o

  few : length es < 4294967296
  few = omega (arith, few_counted dcf, o 0, o 1, o 2, o 3)

  -- where the count stays and nothing is dropped, nothing changes
  same : Whole dcf → dcf_of es ≡ dcf
  same w =
      let t = takes es formed in
      let l = w.alone in
      let none : drop (4 + length (stored es)) dcf ≡ [] = drop_of_length-le dcf {i = 4 + length (stored es)} (omega arith) in
      let lies : stored es ≡ drop 4 dcf = sym (append-nil (stored es)) ∙ ap (λ (r : Bytes). stored es ++ r) (sym none) ∙ all_lie (count_of dcf) dcf 4 o in
      rw (← w.counted, lies) (four_at dcf 0 o (omega arith))

  pub repairs : Repairs dcf
  unfolding repaired
  repairs =
      record {
        entries = entries_back es few formed;
        whole = whole_of es few formed;
        once = ap dcf_of (entries_back es few formed);
        unchanged = same;
        changed = λ e. subst Whole e (whole_of es few formed);
        no_longer = no_longer dcf o;
        kept = subst (λ (k : ℕ). stored es ++ drop k dcf ≡ drop 4 dcf) {x = 4 + length (stored es)} {y = length (dcf_of es)} (omega arith) (all_lie (count_of dcf) dcf 4 o);
      }
