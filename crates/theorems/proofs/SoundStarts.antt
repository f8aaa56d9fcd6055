-- A start leaves a sound manager sound, with the store that it leaves.
use Rattle.std.specs.Prelude.{All, Ok}
use Rattle.std.proofs.lemmas.List.Elements.{All-set}
use Prim.Native.Nat.{ℕ, ◌<◌}
use native.Mathlib.Omega.{arith}
use mathlib.Core.Path.{◌≡◌, refl, sym, ◌∙◌, ap, subst}
use mathlib.Core.List.{List}
use lib.ListN.{length, set, get_or}
use Rattle.codec.specs.Bytes.{Bytes}
use Rattle.con_reply.proofs.StepSound.{new_sound}
use Rattle.manager.specs.Calls.{Job, called, job_room, number_of, starts}
use Rattle.man_table.specs.Table.{free_room, insert_in, live, place_in, room_size, store_size, table_of, held_at, room_in}
use Rattle.theorems.specs.Sound.{Sane, Slotted, Sound}
use Rattle.theorems.specs.Types.{
  Answer,
  End,
  Now,
  SdoClientConnection as Connection,
  SdoClientManager as Manager,
}
use Rattle.theorems.specs.Untouched.{stepped}
use Rattle.theorems.proofs.AllLists.{all_insert}
use Rattle.theorems.proofs.Cases.{Absent, At}
use Rattle.theorems.proofs.NodeAndRoom.{Same}
use Rattle.theorems.proofs.FreeRooms.{Nobodys, free_nobodys, free_slotted}
use Rattle.theorems.proofs.JobStarts.{started_room, started_runs, started_same}
use Rattle.theorems.proofs.OrderedTables.{ordered_insert}
use Rattle.theorems.proofs.Rooms.{room_length}
use Rattle.theorems.proofs.SoundCalls.{few_set, fit_new, ordered_set, sane_there, slot_at, started_sound}
use Rattle.theorems.proofs.SoundTables.{insert_length, number_next, sane_of, sound_table}
use Rattle.theorems.proofs.StartBy.{fresh, start_by, start_on, store_with}

module _ (m : Manager) (store : Bytes) (sound : Sound m store) (node : ℕ) (job : Job) (n : Now) where
  -- a start that counts and changes nothing else
  counts_sound : Sound (stepped m) store
  counts_sound =
      record {
        is =
            ap
            (λ (k : Manager).
            record { connections = k.connections; count = k.count; next_transaction_id = number_of m })
            sound.is;
        few = sound.few;
        ordered = sound.ordered;
        each = sound.each;
        number = number_next m sound.number;
      }

  -- a connection that was started, in the store with its job's bytes
  module _ (long : length store ≡ store_size) (c d : Connection) (slot : Slotted c.room)
      (e : start_on m job n store c ≡ Ok d) where
    abbrev room : Bytes
    room = job_room job (room_in store c)

    size : length room ≡ room_size
    size = started_room job c d (number_of m) n (room_in store c) e ∙ room_length store long c.room

    fixed : Same c d
    fixed = started_same job c d (number_of m) n (room_in store c) e

    sane : Sane (store_with job store c) d
    sane =
        sane_of (store_with job store c) d
        (started_runs job c d (number_of m) n (room_in store c) e)
        (fit_new m store sound long c room size d fixed slot (started_sound job c d (number_of m) n (room_in store c) e))

    others : All (Sane (store_with job store c)) (live m)
    others k d h = sane_there m store sound long c room size (get_or (live m) k d) (sound.each k d h)

  again_sound : (k : ℕ) (d : Connection) → length store ≡ store_size → At node (live m) k
      → start_on m job n store (held_at m k) ≡ Ok d
      → Sound (table_of (set (live m) k d) (number_of m)) (store_with job store (held_at m k))
  again_sound k d long at e =
      let c : Connection = held_at m k in
      let slot : Slotted c.room = slot_at m store sound node k at in
      sound_table (set (live m) k d) (number_of m) (store_with job store c) (few_set m store sound k d)
      (ordered_set m store sound k d (fixed long c d slot e))
      (All-set (Sane (store_with job store c)) (live m) k d (sane long c d slot e) (others long c d slot e))
      (number_next m sound.number)

  -- a new connection, in a room that was nobody's
  inserted_sound : (d : Connection) (after : Bytes) → Absent node (live m) → length (live m) < 8 → Same (fresh m node) d
      → Sane after d → All (Sane after) (live m) → Sound (table_of (insert_in d (live m)) (number_of m)) after
  inserted_sound d after none few s i a =
      sound_table (insert_in d (live m)) (number_of m) after (omega (arith, insert_length d (live m)))
      (ordered_insert d (live m) (subst (λ (k : ℕ). Absent k (live m)) (sym s.0) none)
      (subst (λ (r : ℕ). Nobodys r (live m)) (sym s.1) (free_nobodys (live m) few)) sound.ordered)
      (all_insert (Sane after) (live m) (place_in d.target_node_id (live m)) d i a)
      (number_next m sound.number)

  enters_sound : (d : Connection) → length store ≡ store_size → Absent node (live m) → length (live m) < 8
      → start_on m job n store (fresh m node) ≡ Ok d
      → Sound (table_of (insert_in d (live m)) (number_of m)) (store_with job store (fresh m node))
  enters_sound d long none few e =
      let c : Connection = fresh m node in
      let slot : Slotted (free_room (live m)) = free_slotted (live m) in
      inserted_sound d (store_with job store c) none few (fixed long c d slot e) (sane long c d slot e) (others long c d slot e)

  idles_sound : Absent node (live m) → length (live m) < 8
      → Sound (table_of (insert_in (fresh m node) (live m)) (number_of m)) store
  idles_sound none few =
      inserted_sound (fresh m node) store none few (refl, refl)
      (record {
        slotted = free_slotted (live m);
        runs = refl;
        opened = refl;
        consistent = new_sound node (free_room (live m)) _;
      })
      sound.each

  pub start_sound : (output : Bytes)
      → Sound (called m store output (starts node job n)).done.manager (called m store output (starts node job n)).store
  start_sound output =
      start_by m node job n store output (λ (k : Manager) (s out : Bytes) (x : Answer) (es : List End). Sound k s)
      (λ r e. sound) (λ r e k f. counts_sound) again_sound enters_sound (λ r e f none few. idles_sound none few)
