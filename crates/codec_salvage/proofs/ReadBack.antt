-- The DCF of some entries is read as these entries.
use Prim.Native.Nat.{ℕ, zero, suc, ◌+◌, ◌*◌, ◌/◌, ◌%◌, ◌<◌, ◌≤◌}
use native.Mathlib.Omega.{arith}
use mathlib.Core.Path.{◌≡◌, refl, ap}
use mathlib.Core.Bool.{Bool, true, false}
use mathlib.Core.List.{List, [], ◌∷◌, ◌++◌, append_assoc}
use lib.Dec.{leb}
use lib.ListN.{length, get_or, take, drop, length-append}
use lib.Seq.{drop-append-add, get_or-append-add, get_or-append_seam, take-append_seam}
use borrow.Author.Tests.{le-leb, leb-true}
use Rattle.laws.specs.Pick.{pick}
use Rattle.codec.specs.Bytes.{Bytes}
use Rattle.codec.specs.Dcf.{behind, entries_from, entry_at, sent_as, size_at}
use Rattle.codec.proofs.RoundTrips.{four_bytes}
use Rattle.codec_salvage.specs.Repair.{Octets}
use Rattle.codec_salvage.specs.Salvage.{stored, stored_as}
use Rattle.codec_salvage.proofs.Stored.{data_length}

-- an entry with an index of 16 bits and a size of 32, and a list of such
pub record Formed (e : Bytes) : Type 0 where
  pub index : ℕ
  pub sub : ℕ
  pub bytes : Bytes
  pub is : e ≡ sent_as index sub bytes
  pub index_fits : index < 65536
  pub size_fits : length bytes < 4294967296

abbrev pub AllFormed : List Bytes → Type 0
AllFormed [] = Unit {0}
AllFormed (e ∷ es) = Formed e × AllFormed es

-- the readable entries are such
pub all_formed : (left : ℕ) (b : Bytes) (at : ℕ) → Octets b → AllFormed (entries_from left b at)
unfolding pick
all_formed zero b at o = tt
all_formed (suc left) b at o = go (leb (at + 7) (length b)) (leb (behind b at) (length b)) refl (all_formed left b (behind b at) o)
  where
    rest : List Bytes
    rest = entries_from left b (behind b at)

    go : (p q : Bool) → leb (behind b at) (length b) ≡ q → AllFormed rest → AllFormed (pick p (pick q (entry_at b at ∷ rest) []) [])
    go false q f more = tt
    go true false f more = tt
    go true true f more = (
      record {
        index = _;
        sub = _;
        bytes = take (size_at b at) (drop (at + 7) b);
        is = refl;
        index_fits = omega (arith, o at, o (at + 1));
        size_fits =
            omega (arith, data_length b at o (leb-true _ _ f), o (at + 3), o (at + 3 + 1), o (at + 3 + 2), o (at + 3 + 2 + 1));
      },
      more,
    )

-- an entry that stands behind some bytes, with others behind it, is what is read there
module _ (front : Bytes) (index sub : ℕ) (bytes more : Bytes) (index_fits : index < 65536) (size_fits : length bytes < 4294967296) where
  abbrev at : ℕ
  at = length front

  abbrev b : Bytes
  b = front ++ (stored_as (sent_as index sub bytes) ++ more)

  there : (k : ℕ) → get_or b (at + k) 0 ≡ get_or (stored_as (sent_as index sub bytes) ++ more) k 0
  there k = get_or-append-add front _ k 0

  size_back : size_at b at ≡ length bytes
  size_back =
      let e : at + 3 + 1 ≡ at + 4 = omega arith in
      let f : at + 3 + 2 ≡ at + 5 = omega arith in
      let g : at + 5 + 1 ≡ at + 6 = omega arith in
      rw (e, f, g, there 3, there 4, there 5, there 6) (four_bytes (length bytes) size_fits)

  entry_back : entry_at b at ≡ sent_as index sub bytes
  entry_back =
      let low : get_or b at 0 ≡ index % 256 = get_or-append_seam front (index % 256) _ 0 in
      let number : index % 256 + index / 256 % 256 * 256 ≡ index = omega arith in
      let rest : drop (at + 7) b ≡ bytes ++ more = drop-append-add front _ 7 in
      rw (low, there 1, number, there 2, size_back, rest, take-append_seam)

  -- and then the entries behind it are
  pub entry_then : (left : ℕ) (es : List Bytes)
      → entries_from left ((front ++ stored_as (sent_as index sub bytes)) ++ more) (length (front ++ stored_as (sent_as index sub bytes))) ≡ es
      → entries_from (suc left) b at ≡ sent_as index sub bytes ∷ es
  unfolding pick
  entry_then left es h =
      let l : length b ≡ at + (7 + length bytes + length more) = rw (length-append front, length-append (stored_as (sent_as index sub bytes))) (omega arith) in
      let n : behind b at ≡ length (front ++ stored_as (sent_as index sub bytes)) = rw length-append (omega (arith, size_back)) in
      let head : at + 7 ≤ length b = omega arith in
      let all : behind b at ≤ length b = rw size_back (omega arith) in
      rw (le-leb (at + 7) (length b) head, le-leb (behind b at) (length b) all, entry_back, n, ← append_assoc front)
      (ap (λ (l : List Bytes). sent_as index sub bytes ∷ l) h)

-- entries behind some bytes
pub reads_back : (front : Bytes) (es : List Bytes) → AllFormed es → entries_from (length es) (front ++ stored es) (length front) ≡ es
reads_back front [] h = refl
reads_back front (e ∷ es) h =
    let f = h.0 in
    rw f.is
    (entry_then front f.index f.sub f.bytes (stored es) f.index_fits f.size_fits (length es) es
    (reads_back (front ++ stored_as (sent_as f.index f.sub f.bytes)) es h.1))
