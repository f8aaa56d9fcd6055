-- Successive calls of `next_entry` find the readable entries, and stop behind the last: each takes one of the entries from the reader's place on.
use Prim.Native.Nat.{ℕ, zero, suc, ◌+◌, ◌≤◌}
use native.Mathlib.Omega.{arith}
use mathlib.Core.Path.{◌≡◌, refl, ap, ◌∙◌}
use mathlib.Core.List.{List}
use lib.ListN.{length, take, drop}
use lib.Seq.{take-nil}
use denote.Ref.{Bor}
use Rattle.laws.proofs.Picks.{within}
use Rattle.codec.specs.Bytes.{Bytes, part_at}
use Rattle.codec.specs.Dcf.{dcf_count, entries_from, readable_entries}
use Rattle.codec.specs.declared.dcf.DcfStep.{DcfStep}
use Rattle.codec.proofs.Entries.{Stepped as Found, stepped}
use Rattle.codec_reader.specs.Place.{counted, past}
use Rattle.codec_reader.specs.Reader.{found_by, moved_on, reader_of}
use Rattle.codec_reader.specs.Successive.{ReadsAll, Stopped, after_calls, found_in, with_found}
use Rattle.codec_reader.specs.declared.DcfReader.{DcfReader}
use Rattle.codec_reader.proofs.Readable.{first, from}

-- the entries from a reader's place on
abbrev ahead : DcfReader → List Bytes
ahead r = from r.dcf.now r.place

-- a reader that a step moved on
abbrev moved : DcfReader → DcfStep → DcfReader
moved r t = record { dcf = r.dcf; place = past r.place t }

part_in : (b : Bytes) (start len : ℕ) → start + len ≤ length b → take len (drop start b) ≡ part_at b start len
unfolding part_at
part_in b start len h = within _ _ _ _ h refl

-- n calls find the first n of the entries ahead
finds : (n : ℕ) (r : DcfReader) → found_in n r ≡ take n (ahead r)
finds zero r = refl
finds (suc n) r = go (found_by r) (stepped r.dcf.now r.place) (finds n (moved r (found_by r)))
  where
    go : (t : DcfStep) → Found r.dcf.now r.place.at r.place.left t → found_in n (moved r t) ≡ take n (ahead (moved r t))
        → with_found r.dcf.now t (found_in n (moved r t)) ≡ take (suc n) (ahead r)
    go (DcfStep.Entry entry next) h e =
        rw (h.0, e, part_in r.dcf.now entry.start entry.len h.2)
    go DcfStep.End h e = e ∙ rw (h.0, take-nil n)
    go DcfStep.Unreadable h e = e ∙ rw (h.0, take-nil n)

-- after as many calls as entries are ahead, the reader stays where it is
pub record Rests (all : Type 0) (r : DcfReader) : Type 0 where
  pub stays : moved_on r ≡ r
  pub stops : Stopped all (found_by r)

stopped_if : {all other : Type 0} → (all → other) → (other → all) → (t : DcfStep) → Stopped all t → Stopped other t
stopped_if f g (DcfStep.Entry entry next) h = h
stopped_if f g DcfStep.End h = f h
stopped_if f g DcfStep.Unreadable h = λ z. h (g z)

rests_if : {all other : Type 0} {r : DcfReader} → (all → other) → (other → all) → Rests all r → Rests other r
rests_if {r = r} f g x = record { stays = x.stays; stops = stopped_if f g (found_by r) x.stops }

rests : (n : ℕ) (r : DcfReader) → length (ahead r) ≤ n → Rests (r.place.left ≡ length (ahead r)) (after_calls n r)
rests zero r h = go (found_by r) refl (stepped r.dcf.now r.place)
  where
    go : (t : DcfStep) → found_by r ≡ t → Found r.dcf.now r.place.at r.place.left t → Rests (r.place.left ≡ length (ahead r)) r
    go (DcfStep.Entry entry next) e k = let l = ap length k.0 in absurd (omega arith)
    go DcfStep.End e k = let l = ap length k.0 in let z = k.1 in record { stays = rw e; stops = rw e (omega arith) }
    go DcfStep.Unreadable e k = let l = ap length k.0 in record { stays = rw e; stops = rw e (λ z. k.1 (omega arith)) }
rests (suc n) r h = go (found_by r) (stepped r.dcf.now r.place) (rests n (moved r (found_by r)))
  where
    Rest : DcfStep → Type 0
    Rest t = length (ahead (moved r t)) ≤ n → Rests ((moved r t).place.left ≡ length (ahead (moved r t))) (after_calls n (moved r t))

    go : (t : DcfStep) → Found r.dcf.now r.place.at r.place.left t → Rest t → Rests (r.place.left ≡ length (ahead r)) (after_calls n (moved r t))
    go (DcfStep.Entry entry next) k rest =
        let behind = entries_from next.left r.dcf.now next.at in
        let l : length (ahead r) ≡ suc (length behind) = ap length k.0 in
        let left = k.1 in
        let up : next.left ≡ length behind → r.place.left ≡ length (ahead r) = λ z. omega arith in
        let down : r.place.left ≡ length (ahead r) → next.left ≡ length behind = λ z. omega arith in
        rests_if up down (rest (omega arith))
    go DcfStep.End k rest = let l = ap length k.0 in rest (omega arith)
    go DcfStep.Unreadable k rest = let l = ap length k.0 in rest (omega arith)

pub reads_all : (dcf : Bor (List ℕ)) → ReadsAll dcf
reads_all dcf =
    record {
      found = λ n. finds n (reader_of dcf) ∙ ap (take n) (first dcf.now);
      stays = λ n h. (all n h).stays;
      stops = λ n h. (all n h).stops;
    }
  where
    all : (n : ℕ) → length (readable_entries dcf.now) ≤ n
        → Rests (counted (dcf_count dcf.now) ≡ length (readable_entries dcf.now)) (after_calls n (reader_of dcf))
    all n h = rw (← first dcf.now) (rests n (reader_of dcf) (rw (← first dcf.now) at h))
