-- What a start comes to, case by case: to show something of a start it is enough to show it of each case.
use Rattle.std.specs.Prelude.{Option, Some, None, Result, Ok, Err}
use Prim.Native.Nat.{ℕ, ◌<◌}
use mathlib.Core.Path.{◌≡◌, refl}
use mathlib.Core.Bool.{true, false}
use mathlib.Core.List.{[]}
use lib.Dec.{leb, eqb}
use lib.ListN.{length, set}
use borrow.Author.Tests.{eqb-true, leb-false, lt-ltb}
use Rattle.laws.specs.Pick.{pick}
use Rattle.codec.specs.Bytes.{Bytes}
use Rattle.con_rec.specs.Record.{new_connection}
use Rattle.laws.proofs.Choices.{decided}
use Rattle.manager.specs.Calls.{Effect, Job, called, carried_out, job_room, number_of, refuses, seat_in, seat_of, start_at, start_job, start_of, started_as, started_store, starts, takes_number, with_room}
use Rattle.manager.specs.Change.{change_done, entered_at, number_after}
use Rattle.man_table.specs.Table.{find_in, free_room, insert_in, live, store_size, table_of, held_at, target_at, target_of, room_in}
use Rattle.theorems.specs.Types.{
  Answer,
  Change,
  Entry,
  Now,
  Refusal,
  SdoClientConnection as Connection,
  SdoClientManager as Manager,
}
use Rattle.theorems.specs.Untouched.{stepped}
use Rattle.theorems.proofs.Cases.{At, Absent, FoundAs, Of, Shown, found_as}

-- a new connection, with a free room
abbrev pub fresh : Manager → ℕ → Connection
fresh m node = new_connection node (free_room (live m))

-- what the job's start makes of a connection
abbrev pub start_on : Manager → Job → Now → Bytes → Connection → Result Connection Refusal
start_on m job n store c = start_job job c (number_of m) n (room_in store c)

-- the store with the job's bytes in the room of a connection that was started
abbrev pub store_with : Job → Bytes → Connection → Bytes
store_with job store c = with_room store c (job_room job (room_in store c))

module _ (m : Manager) (node : ℕ) (job : Job) (n : Now) (store output : Bytes) (P : Shown)
    (leaves : (r : Refusal) → takes_number r ≡ false → P m store output (Answer.Refused r) [])
    (counts : (r : Refusal) → takes_number r ≡ true → (k : ℕ) → find_in node (live m) ≡ Some k
    → P (stepped m) store output (Answer.Refused r) [])
    (again : (k : ℕ) (d : Connection) → length store ≡ store_size → At node (live m) k
    → start_on m job n store (held_at m k) ≡ Ok d
    → P (table_of (set (live m) k d) (number_of m)) (store_with job store (held_at m k)) output Answer.Nothing [])
    (enters : (d : Connection) → length store ≡ store_size → Absent node (live m) → length (live m) < 8
    → start_on m job n store (fresh m node) ≡ Ok d
    → P (table_of (insert_in d (live m)) (number_of m)) (store_with job store (fresh m node)) output Answer.Nothing [])
    (idles : (r : Refusal) → takes_number r ≡ true → find_in node (live m) ≡ None → Absent node (live m) → length (live m) < 8
    → P (table_of (insert_in (fresh m node) (live m)) (number_of m)) store output (Answer.Refused r) []) where
  abbrev Starts : Effect → Type 0
  Starts e = Of P (carried_out m e output)

  left : (r : Refusal) → takes_number r ≡ false → Starts (refuses r store)
  unfolding change_done entered_at number_after pick
  left r e = leaves r e

  module _ (long : length store ≡ store_size) where
    abbrev Begins : Entry → Connection → Result Connection Refusal → Type 0
    Begins entry c a = Starts (record { change = started_as a entry; store = started_store a job c store })

    held : (k : ℕ) → find_in node (live m) ≡ Some k → At node (live m) k → (a : Result Connection Refusal)
        → start_on m job n store (held_at m k) ≡ a → Begins (Entry.At k (held_at m k)) (held_at m k) a
    unfolding change_done entered_at number_after pick
    held k f at (Ok d) e = again k d long at e
    held k f at (Err r) e =
        decided (λ (c : Change). Starts (record { change = c; store = store })) (takes_number r) _ _
        (λ y. counts r y k f) (λ y. left r y)

    new : find_in node (live m) ≡ None → Absent node (live m) → length (live m) < 8 → (a : Result Connection Refusal)
        → start_on m job n store (fresh m node) ≡ a → Begins (Entry.New (fresh m node)) (fresh m node) a
    unfolding change_done entered_at number_after pick
    new f none few (Ok d) e = rw (lt-ltb (length (live m)) 8 few) (enters d long none few e)
    new f none few (Err r) e =
        decided (λ (c : Change). Starts (record { change = c; store = store })) (takes_number r) _ _
        (λ y. rw (lt-ltb (length (live m)) 8 few) (idles r y f none few)) (λ y. left r y)

    abbrev On : Entry → Type 0
    On x = Starts (start_at (seat_of x) x m job n store)

    target : (f : Option ℕ) → find_in node (live m) ≡ f → FoundAs node (live m) f → On (target_at f m node)
    target (Some k) f at = held k f at (start_on m job n store (held_at m k)) refl
    target None f none =
        decided On (leb 8 (length (live m))) Entry.Nowhere (Entry.New (fresh m node)) (λ h. left Refusal.TableFull refl)
        (λ h. new f none (leb-false 8 (length (live m)) h) (start_on m job n store (fresh m node)) refl)

  pub start_by : Of P (called m store output (starts node job n))
  unfolding called start_of seat_in target_of
  start_by =
      decided (λ (s : Result Connection Refusal). Starts (start_at s (target_at (find_in node (live m)) m node) m job n store)) (eqb (length store) store_size) _ _
      (λ e. target (eqb-true _ _ e) (find_in node (live m)) refl (found_as node (live m))) (λ e. left Refusal.WrongStore refl)
