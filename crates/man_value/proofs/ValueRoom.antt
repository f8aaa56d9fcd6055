-- The part with what a read brought is the beginning of its connection's room.
use Prim.Native.Nat.{ℕ, ◌+◌, ◌≤◌}
use native.Mathlib.Omega.{arith}
use mathlib.Core.Path.{◌≡◌, refl, sym}
use lib.Dec.{leb}
use lib.ListN.{length, take, drop, length-drop, length-take}
use lib.Seq.{take-take}
use borrow.Author.Tests.{leb-false}
use Rattle.laws.proofs.Choices.{decided}
use Rattle.codec.specs.Bytes.{Bytes, part_at}
use Rattle.con_rec.specs.declared.SdoClientConnection.{SdoClientConnection}
use Rattle.man_table.specs.Table.{room_in, room_size, room_start}
use Rattle.man_value.specs.Value.{uploaded_part, value_in}

pub value_room : (store : Bytes) (c : SdoClientConnection) → c.job.uploaded ≤ length (room_in store c)
    → value_in store (uploaded_part c) ≡ take c.job.uploaded (room_in store c)
unfolding part_at
value_room store c fits =
    let n : ℕ = c.job.uploaded in
    let few : n ≤ length (take room_size (drop (room_start c) store)) = fits in
    let short = rw (length-take, length-drop) at few in
    let within : take n (drop (room_start c) store) ≡ take n (room_in store c) =
    sym (take-take n room_size (drop (room_start c) store) (omega (arith, short))) in
    decided (λ (b : Bytes). b ≡ take n (room_in store c)) (leb (room_start c + n) (length store)) _ _ (λ h. within)
    (λ h. let none : n ≡ 0 = omega (arith, short, leb-false (room_start c + n) (length store) h) in rw none refl)
