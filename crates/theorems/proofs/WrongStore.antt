-- A call that is lent a store of another length is refused: 9, and nothing has happened.
use mathlib.Core.Path.{◌≡◌, refl, ap}
use lib.ListN.{length}
use borrow.Author.Tests.{ne_eqb}
use Rattle.laws.specs.Pick.{pick}
use Rattle.codec.specs.Bytes.{Bytes}
use Rattle.manager.specs.Calls.{After, Call, called, replies, reply_from, seat_in, start_of, starts, turn_of, turns}
use Rattle.manager.specs.Change.{change_done, entered_at, number_after, refusing}
use Rattle.man_table.specs.Table.{store_size}
use Rattle.theorems.specs.Run.{Host, another, next}
use Rattle.theorems.specs.Types.{Refusal, SdoClientManager as Manager}

abbrev pub refused_nine : Manager → Bytes → Bytes → After
refused_nine m store output = record { done = refusing m Refusal.WrongStore; store = store; output = output }

pub wrong_store : (m : Manager) (store output : Bytes) (x : Call) → (length store ≡ store_size → ⊥)
    → called m store output x ≡ refused_nine m store output
unfolding called start_of seat_in reply_from turn_of change_done entered_at number_after pick
wrong_store m store output (starts node job n) ne = rw (ne_eqb (length store) store_size ne) refl
wrong_store m store output (turns t n) ne = rw (ne_eqb (length store) store_size ne) refl
wrong_store m store output (replies node seq cmd payload) ne = rw (ne_eqb (length store) store_size ne) refl

-- the host is as it was
pub nothing_happened : (h : Host) (x : Call) (store output : Bytes) (differs : length store ≡ store_size → ⊥)
    → next h (record { call = x; lends = another store differs; output = output }) ≡ h
nothing_happened h x store output differs =
    ap (λ (a : After). record { manager = a.done.manager; store = h.store }) (wrong_store h.manager store output x differs)
