-- A room lent to a connection's call and put back is the store with that room's bytes; where the call is refused it is the store as it was.
use Rattle.std.specs.Prelude.{Result, Ok, Err}
use Rattle.codec.specs.declared.refusal.Refusal.{Refusal}
use Prim.Native.Nat.{ℕ, ◌+◌, ◌-◌, ◌≤◌}
use native.Mathlib.Nat.{add-sub_cancel_left}
use native.Mathlib.Omega.{arith}
use mathlib.Core.Path.{◌≡◌, refl, sym, ap, ◌∙◌}
use mathlib.Core.List.{◌++◌, append_assoc}
use lib.ListN.{length, take, drop, length-take, length-drop, take-append-drop}
use lib.Seq.{drop-drop}
use Rattle.codec.specs.Bytes.{Bytes, placed}
use Rattle.connection.specs.Start.{room_with}
use Rattle.con_reply.specs.Reply.{replied, room_after}
use Rattle.manager.specs.Calls.{loads, replied_store, started_store, with_room, writes}
use Rattle.man_table.specs.Table.{room_in, room_size, room_start, store_size}
use Rattle.manager.specs.Types.{Decision, Mode, SdoClientConnection}

-- the part that is lent, from its start to 4,096 bytes further
pub lent_room : (store : Bytes) (c : SdoClientConnection) (a : ℕ) → a ≡ room_start c → take (a + 4096 - a) (drop a store) ≡ room_in store c
lent_room store c a e = rw (add-sub_cancel_left, e)

lent_length : (store : Bytes) (a : ℕ) → a ≤ 28672 → length store ≡ 32768 → length (take (a + 4096 - a) (drop a store)) ≡ 4096
lent_length store a h k = rw (length-take, length-drop) (omega arith)

-- put back, as long as it was lent
pub room_back : (store room after : Bytes) (c : SdoClientConnection) (a : ℕ) → a ≡ room_start c → a ≤ 28672 → length store ≡ 32768
    → length room ≡ length (take (a + 4096 - a) (drop a store)) → room ≡ after
    → take a store ++ (room ++ drop (a + 4096 - a) (drop a store)) ≡ with_room store c after
unfolding placed
room_back store room after c a e h k same f =
    let l : length room ≡ 4096 = same ∙ lent_length store a h k in
    rw (← f, ← e, append_assoc (take a store), add-sub_cancel_left, drop-drop, l)

module _ (store : Bytes) (long : length store ≡ store_size) (c : SdoClientConnection) where
  -- its own bytes put back leave the store
  pub put_back : with_room store c (room_in store c) ≡ store
  unfolding placed
  put_back =
      let r : length (room_in store c) ≡ room_size = rw (length-take, length-drop) (omega arith) in
      append_assoc (take (room_start c) store) (room_in store c) _
      ∙ ap (λ (n : ℕ). take (room_start c) store ++ (room_in store c ++ drop (room_start c + n) store)) r
      ∙ ap (λ (l : Bytes). take (room_start c) store ++ (room_in store c ++ l)) (sym (drop-drop room_size (room_start c) store))
      ∙ ap (λ (l : Bytes). take (room_start c) store ++ l) (take-append-drop room_size (drop (room_start c) store))
      ∙ take-append-drop (room_start c) store

  pub write_stored : (mode : Mode) (index sub : ℕ) (bytes : Bytes) (a : Result SdoClientConnection Refusal)
      → with_room store c (room_with a bytes (room_in store c)) ≡ started_store a (writes mode index sub bytes) c store
  write_stored mode index sub bytes (Ok d) = refl
  write_stored mode index sub bytes (Err r) = put_back

  pub dcf_stored : (mode : Mode) (dcf : Bytes) (a : Result SdoClientConnection Refusal) → with_room store c (room_with a dcf (room_in store c)) ≡ started_store a (loads mode dcf) c store
  dcf_stored mode dcf (Ok d) = refl
  dcf_stored mode dcf (Err r) = put_back

  pub reply_stored : (payload : Bytes) (x : Decision)
      → with_room store c (room_after x payload (room_in store c))
      ≡ replied_store (replied x) (with_room store c (room_after x payload (room_in store c))) store
  reply_stored payload (Decision.Keeps d) = refl
  reply_stored payload (Decision.Stores d from) = refl
  reply_stored payload Decision.NoRoom = put_back
