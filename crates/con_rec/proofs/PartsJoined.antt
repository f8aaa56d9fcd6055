-- The parts of a transfer: their lengths sum to the total, for every total in either mode; bytes cut at these lengths and joined are the
-- bytes, each once.
use Prim.Native.Nat.{ℕ, zero, suc, ◌+◌, ◌-◌, ◌*◌, ◌≤◌}
use native.Mathlib.Omega.{arith}
use mathlib.Core.Path.{◌≡◌, sym, ◌∙◌}
use mathlib.Core.List.{List, [], ◌∷◌}
use lib.ListN.{length, drop, length-drop, take-append-drop}
use Rattle.std.proofs.lemmas.List.{nil_from_length}
use Rattle.codec.specs.Bytes.{Bytes}
use Rattle.con_rec.specs.Parts.{wire, total, part_length}
use Rattle.con_rec.specs.PartsOf.{Part, cut_at, joined_up, later_count, later_parts, lengths, parts_of}
use Rattle.con_rec.specs.Types.{Mode, Transfer}
use Rattle.con_rec.proofs.Wires.{wire_length}

-- ---- the lengths
later_lengths : (k rest : ℕ) → rest ≤ k * 1452 → lengths (later_parts k rest) ≡ rest
later_lengths zero rest h = omega arith
later_lengths (suc k) rest h = rw (later_lengths k (rest - part_length rest) (omega arith)) (omega arith)

pub lengths_total : (mode : Mode) (total : ℕ) → lengths (parts_of mode total) ≡ total
lengths_total mode total =
    rw (later_lengths (later_count (total - part_length total)) (total - part_length total) (omega arith)) (omega arith)

-- ---- cut and joined
cut_joined : (ps : List Part) (b : Bytes) → lengths ps ≡ length b → joined_up (cut_at ps b) ≡ b
cut_joined [] b e = sym (nil_from_length b (sym e))
cut_joined (p ∷ ps) b e =
    rw (cut_joined ps (drop p.length b) (rw length-drop (omega (arith, e)))) (take-append-drop p.length b)

pub joined : (mode : Mode) (b : Bytes) → joined_up (cut_at (parts_of mode (length b)) b) ≡ b
joined mode b = cut_joined (parts_of mode (length b)) b (lengths_total mode (length b))

-- so it is with a transfer's bytes and its total
pub transfer_joined : (mode : Mode) (job : Bytes) (t : Transfer) → t.start + t.len ≤ length job
    → joined_up (cut_at (parts_of mode (total t)) (wire job t)) ≡ wire job t
transfer_joined mode job t h =
    cut_joined (parts_of mode (total t)) (wire job t) (lengths_total mode (total t) ∙ sym (wire_length job t h))
