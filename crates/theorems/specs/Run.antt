-- Calls of the manager one after another, each lent the store that the one before it left and an output of its own, and what any list of them makes of
-- a new manager. A host may also lend a store of another length by mistake; its own store is then as it was.
use Rattle.std.specs.Prelude.{ℕ, ◌≡◌, List, [], ◌∷◌, length, take}
use Rattle.codec.specs.Bytes.{Bytes}
use Rattle.manager.specs.Calls.{After, Call, Job, called, starts}
use Rattle.man_table.specs.Table.{new_manager, store_size}
use Rattle.theorems.specs.Types.{End, Now, SdoClientManager}

-- the store that a call is lent: the host's own, or one that has not 32,768 bytes
pub data Lends : Type 0 where
  own : Lends
  another : (store : Bytes) → (length store ≡ store_size → ⊥) → Lends

-- a call as the host makes it, with the store and the output that it lends
pub record Event : Type 0 where
  pub call : Call
  pub lends : Lends
  pub output : Bytes

-- a manager and the host's own store
pub record Host : Type 0 where
  pub manager : SdoClientManager
  pub store : Bytes

abbrev pub lent_store : Lends → Bytes → Bytes
lent_store own store = store
lent_store (another other differs) store = other

abbrev pub made : Host → Event → After
made h x = called h.manager (lent_store x.lends h.store) x.output x.call

abbrev pub own_store : Lends → Bytes → Bytes → Bytes
own_store own before after = after
own_store (another other differs) before after = before

abbrev pub next : Host → Event → Host
next h x =
    let a : After = made h x in record { manager = a.done.manager; store = own_store x.lends h.store a.store }

-- a start, which looks at no output
abbrev pub starting : ℕ → Job → Now → Event
starting node job now = record { call = starts node job now; lends = own; output = [] }

-- the ends that a call reports: the first `count`
abbrev pub reported : After → List End
reported a = take a.done.ends.count a.done.ends.list

abbrev pub run : Host → List Event → Host
run h [] = h
run h (x ∷ xs) = run (next h x) xs

-- Statements speak of managers these calls made (document 01, "The manager").
abbrev pub reached : Bytes → List Event → Host
reached store events = run (record { manager = new_manager; store = store }) events
