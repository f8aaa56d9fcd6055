-- A transfer's bytes: how many they are, that they are the same in the room and in the job's own bytes, and how long a part is.
use Prim.Native.Nat.{ℕ, ◌+◌, ◌-◌, ◌≤◌, min}
use native.Mathlib.Omega.{arith}
use mathlib.Core.Path.{◌≡◌, sym, ap}
use mathlib.Core.List.{List}
use lib.ListN.{length, take, drop, length-take, length-drop}
use lib.Seq.{take_all, take-take}
use Rattle.std.proofs.lemmas.List.{drop-take}
use Rattle.codec.specs.Bytes.{Bytes}
use Rattle.codec.specs.Dcf.{sent_as}
use Rattle.con_rec.specs.Parts.{wire, total}
use Rattle.con_rec.specs.Types.{Transfer}

-- a part that lies within the first bytes is theirs
part_same : {A : Type 0} (start n size : ℕ) (l : List A) → start + n ≤ length (take size l)
    → take n (drop start l) ≡ take n (drop start (take size l))
part_same start n size l h =
    let within : start + n ≤ min size (length l) = rw length-take at h in
    rw (← drop-take start n l, ← drop-take start n (take size l)) (ap (drop start) (sym (take-take (start + n) size l (omega arith))))

pub wire_same : (room : Bytes) (size : ℕ) (t : Transfer) → t.start + t.len ≤ length (take size room)
    → wire room t ≡ wire (take size room) t
wire_same room size t h = ap (sent_as t.index t.sub_index) (part_same t.start t.len size room h)

-- a transfer that lies within the bytes has its total as length
pub wire_length : (job : Bytes) (t : Transfer) → t.start + t.len ≤ length job → length (wire job t) ≡ total t
wire_length job t h = rw (length-take, length-drop) (omega arith)

-- a part that ends within the total has the length that it says
pub part_length_lem : (job : Bytes) (t : Transfer) (from n : ℕ) → t.start + t.len ≤ length job → n ≤ total t - from
    → length (take n (drop from (wire job t))) ≡ n
part_length_lem job t from n h k =
    let e : length (wire job t) ≡ total t = wire_length job t h in rw (length-take, length-drop, e) (omega arith)

-- a transfer is at most its total long, so that all of it was sent where so many bytes were
pub all_sent : (job : Bytes) (t : Transfer) (n : ℕ) → total t ≤ n → take n (wire job t) ≡ wire job t
all_sent job t n h = take_all n (wire job t) (omega (arith, length-take t.len (drop t.start job)))
