-- A start or a reply for one node leaves what is held for every other node: its connection, and the bytes of its room.
use Rattle.std.specs.Prelude.{All, Option, Some, None, Ok}
use Prim.Native.Nat.{ℕ, zero, suc, ◌<◌}
use native.Mathlib.Omega.{arith}
use mathlib.Core.Path.{◌≡◌, refl, sym, ◌∙◌, ap}
use mathlib.Core.Bool.{Bool, true, false}
use mathlib.Core.List.{List, [], ◌∷◌}
use lib.Dec.{ltb, eqb}
use lib.ListN.{length, set, get_or}
use borrow.Author.Tests.{eqb-true, ne_eqb}
use Rattle.std.proofs.lemmas.List.Elements.{All-cons, All-head, All-tail, All-set}
use Rattle.laws.specs.Pick.{pick}
use Rattle.codec.specs.Bytes.{Bytes}
use Rattle.con_rec.specs.Record.{end_with}
use Rattle.con_reply.specs.Reply.{replied, reply_of, room_after}
use Rattle.con_reply.proofs.StoresWithin.{replied_room}
use Rattle.laws.proofs.Choices.{either}
use Rattle.manager.specs.Calls.{Call, Job, called, number_of, replies, starts, turns, with_room}
use Rattle.manager.specs.Value.{value_of}
use Rattle.man_table.specs.Sweep.{ends_in, running, unless_end, with_end}
use Rattle.man_table.specs.Table.{blank, free_room, insert_at, insert_in, live, room_size, store_size, table_of, held_at, room_in}
use Rattle.theorems.specs.Quiet.{ForAnother, Holding, QuietOthers, holding, holding_in}
use Rattle.theorems.specs.Run.{Host, Lends, another, next, own, reached}
use Rattle.theorems.specs.Sound.{Reached, Slotted, Sound}
use Rattle.theorems.specs.Story.{end_for, gave_to}
use Rattle.theorems.specs.Types.{Now, Reason, SdoClientConnection as Connection, SdoClientManager as Manager, SdoCommand, SequenceLayerHeader}
use Rattle.manager.proofs.WalkCalls.{live_table}
use Rattle.theorems.proofs.Cases.{Absent, At, gives_none, Of, OtherNode, reply_by_lem, Shown}
use Rattle.theorems.proofs.NodeAndRoom.{Same, replied_same}
use Rattle.theorems.proofs.FreeRooms.{free_nobodys, free_slotted}
use Rattle.theorems.proofs.JobStarts.{started_room, started_same}
use Rattle.theorems.proofs.OrderedTables.{InSlot, nowhere, ordered_tracks}
use Rattle.theorems.proofs.AllReached.{all_sound}
use Rattle.theorems.proofs.Rooms.{apart, room_length}
use Rattle.theorems.proofs.StartBy.{fresh, start_by, start_on, store_with}
use Rattle.theorems.proofs.Tracked.{Other, Tracks, here, there}
use Rattle.theorems.proofs.WrongStore.{nothing_happened}

-- ---- another node's place in the list
module _ (node other : ℕ) (differ : other ≡ node → ⊥) (store : Bytes) where
  passed : (d : Connection) → d.target_node_id ≡ node → eqb d.target_node_id other ≡ false
  passed d e = ne_eqb d.target_node_id other (λ f. differ (sym f ∙ e))

  look_set : (l : List Connection) (k : ℕ) (d : Connection) → At node l k → d.target_node_id ≡ node
      → holding_in other (set l k d) store ≡ holding_in other l store
  unfolding pick
  look_set [] k d at e = refl
  look_set (c ∷ l) zero d at e = rw (passed d e, passed c at.0)
  look_set (c ∷ l) (suc k) d at e =
      ap (λ (x : Holding). pick (eqb c.target_node_id other) (Some (c, room_in store c)) x)
      (look_set l k d (at.0, omega (arith, at.1)) e)

  look_insert : (l : List Connection) (d : Connection) → d.target_node_id ≡ node → holding_in other (insert_in d l) store ≡ holding_in other l store
  unfolding pick
  look_insert [] d e = rw (passed d e)
  look_insert (c ∷ l) d e =
      let rest = look_insert l d e in
      either (λ (k : ℕ). holding_in other (insert_at k d (c ∷ l)) store ≡ holding_in other (c ∷ l) store)
      (ltb d.target_node_id c.target_node_id) 0 _
      (rw (passed d e)) (ap (λ (x : Holding). pick (eqb c.target_node_id other) (Some (c, room_in store c)) x) rest)

-- no connection of the node has ended
abbrev RunsAt : ℕ → Connection → Type 0
RunsAt other c = c.target_node_id ≡ other → c.outcome ≡ None

-- one that ended is not of a node that runs
ended_other : (c : Connection) (other : ℕ) → RunsAt other c → (why : Reason)
    → c.outcome ≡ Some why → c.target_node_id ≡ other → ⊥
ended_other c other runs why e f = cc (runs f)

-- the sweep removes none of a node that runs
look_running : (other : ℕ) (store : Bytes) (l : List Connection) → All (RunsAt other) l
    → holding_in other (running l) store ≡ holding_in other l store
unfolding pick
look_running other store [] a = refl
look_running other store (c ∷ l) a = go c.outcome refl (look_running other store l (All-tail (RunsAt other) c l a))
  where
    go : (x : Option Reason) → c.outcome ≡ x → holding_in other (running l) store ≡ holding_in other l store
        → holding_in other (unless_end (end_with c x) c (running l)) store
        ≡ pick (eqb c.target_node_id other) (Some (c, room_in store c)) (holding_in other l store)
    go None e r = ap (λ (x : Holding). pick (eqb c.target_node_id other) (Some (c, room_in store c)) x) r
    go (Some why) e r = rw (ne_eqb c.target_node_id other (ended_other c other (All-head (RunsAt other) c l a) why e)) r

-- and reports no end of it
ends_running : (other : ℕ) (l : List Connection) → All (RunsAt other) l → end_for other (ends_in l) ≡ None
unfolding pick
ends_running other [] a = refl
ends_running other (c ∷ l) a = go c.outcome refl (ends_running other l (All-tail (RunsAt other) c l a))
  where
    go : (x : Option Reason) → c.outcome ≡ x → end_for other (ends_in l) ≡ None
        → end_for other (with_end (end_with c x) (ends_in l)) ≡ None
    go None e r = r
    go (Some why) e r = rw (ne_eqb c.target_node_id other (ended_other c other (All-head (RunsAt other) c l a) why e)) r

-- the store changed elsewhere
abbrev BytesStay : ℕ → Bytes → Bytes → Connection → Type 0
BytesStay other store after c = c.target_node_id ≡ other → room_in after c ≡ room_in store c

look_store : (other : ℕ) (store after : Bytes) (l : List Connection) → All (BytesStay other store after) l
    → holding_in other l after ≡ holding_in other l store
unfolding pick
look_store other store after [] a = refl
look_store other store after (c ∷ l) a = go (eqb c.target_node_id other) refl (look_store other store after l (All-tail (BytesStay other store after) c l a))
  where
    go : (b : Bool) → eqb c.target_node_id other ≡ b → holding_in other l after ≡ holding_in other l store
        → pick b (Some (c, room_in after c)) (holding_in other l after) ≡ pick b (Some (c, room_in store c)) (holding_in other l store)
    go true e r = ap (λ (b : Bytes). Some (c, b)) (All-head (BytesStay other store after) c l a (eqb-true c.target_node_id other e))
    go false e r = r

-- ---- the rooms of the others
abbrev OtherAt : ℕ → ℕ → Connection → Type 0
OtherAt node at c = OtherNode node c → Other node at c

others_of : (node at : ℕ) (Q : Connection → Type 0) {l : List Connection} → Tracks node at Q l
    → All (OtherAt node at) l
others_of node at Q (here {c = c} {l = l} e f q o) =
    All-cons (OtherAt node at) c l (λ ne. absurd (ne e)) (λ k d h ne. o k d h)
others_of node at Q (there {c = c} {l = l} o t) =
    All-cons (OtherAt node at) c l (λ ne. o) (others_of node at Q t)

module _ (m : Manager) (store : Bytes) (sound : Sound m store) (node other : ℕ) (differ : other ≡ node → ⊥) where
  slots : All InSlot (live m)
  slots = λ k d h. (sound.each k d h).slotted

  module _ (long : length store ≡ store_size) (d : Connection) (slot : Slotted d.room) (room : Bytes)
      (size : length room ≡ room_size) where
    elsewhere : All (OtherAt node d.room) (live m)
        → holding_in other (live m) (with_room store d room) ≡ holding_in other (live m) store
    elsewhere a =
        look_store other store (with_room store d room) (live m) (λ k x h e. away (get_or (live m) k x) (a k x h (λ f. differ (sym e ∙ f))))
      where
        away : (c : Connection) → Other node d.room c → room_in (with_room store d room) c ≡ room_in store c
        away c o = apart store long c.room d.room room size o.slotted slot (λ e. o.room_differs (sym e))

  -- found at a place, whose connection and room's bytes change
  held_others : (k : ℕ) → At node (live m) k
      → All (OtherAt node (held_at m k).room) (live m)
  held_others k at =
      others_of node (held_at m k).room _ (ordered_tracks node (live m) sound.ordered slots k at)

  slot_at : (k : ℕ) → At node (live m) k → Slotted (held_at m k).room
  slot_at k at = slots k blank at.1

  new_others : Absent node (live m) → length (live m) < 8
      → All (OtherAt node (free_room (live m))) (live m)
  new_others unheld few =
      λ k d h ne. nowhere node (free_room (live m)) (live m) unheld (free_nobodys (live m) few) slots k d h

  -- what is held for the other node is told by the list and the store that a call leaves; it is given nothing, and no end of it is reported
  abbrev pub Quiet : Shown
  Quiet k after out x es = (holding k after other ≡ holding m store other) × (gave_to other out x ≡ None) × (end_for other es ≡ None)

  tells : (l : List Connection) (t : ℕ) (after : Bytes) → holding_in other l after ≡ holding_in other (live m) store
      → holding (table_of l t) after other ≡ holding m store other
  tells l t after e = ap (λ (k : List Connection). holding_in other k after) (live_table l t) ∙ e

  -- ---- reply
  module _ (seq : SequenceLayerHeader) (cmd : SdoCommand) (payload : Bytes) where
    abbrev after : ℕ → Bytes
    after k =
        with_room store (held_at m k)
        (room_after (reply_of seq cmd payload (held_at m k) (room_in store (held_at m k))) payload (room_in store (held_at m k)))

    answers : (output : Bytes) (k : ℕ) (d : Connection) → length store ≡ store_size → At node (live m) k
        → replied (reply_of seq cmd payload (held_at m k) (room_in store (held_at m k))) ≡ Ok d
        → Quiet (table_of (running (set (live m) k d)) m.next_transaction_id) (after k) output (value_of d) (ends_in (set (live m) k d))
    answers output k d long at e =
        let c : Connection = held_at m k in
        let s : Same c d = replied_same seq cmd payload c (room_in store c) d e in
        let own : d.target_node_id ≡ node = s.0 ∙ at.0 in
        let run : All (RunsAt other) (set (live m) k d) =
        All-set (RunsAt other) (live m) k d
        (λ f. absurd (differ (sym f ∙ own))) (λ j x h f. (sound.each j x h).runs) in (
          tells (running (set (live m) k d)) m.next_transaction_id (after k)
              (look_running other (after k) (set (live m) k d) run
              ∙ look_set node other differ (after k) (live m) k d at own
              ∙ elsewhere long c (slot_at k at) _
              (replied_room seq cmd payload c (room_in store c) ∙ room_length store long c.room) (held_others k at)),
          gives_none other output d,
          ends_running other (set (live m) k d) run,
        )

    pub reply_quiet : (output : Bytes) → Of Quiet (called m store output (replies node seq cmd payload))
    reply_quiet output =
        reply_by_lem m node seq cmd payload store output Quiet (λ r. (refl, refl, refl)) (λ unheld. (refl, refl, refl)) (answers output)

  -- ---- start
  module _ (job : Job) (n : Now) where
    again : (k : ℕ) (d : Connection) → length store ≡ store_size → At node (live m) k
        → start_on m job n store (held_at m k) ≡ Ok d
        → holding (table_of (set (live m) k d) (number_of m)) (store_with job store (held_at m k)) other ≡ holding m store other
    again k d long at e =
        let c : Connection = held_at m k in
        let s : Same c d = started_same job c d (number_of m) n (room_in store c) e in
        tells (set (live m) k d) (number_of m) (store_with job store c)
        (look_set node other differ (store_with job store c) (live m) k d at (s.0 ∙ at.0)
        ∙ elsewhere long c (slot_at k at) _
        (started_room job c d (number_of m) n (room_in store c) e ∙ room_length store long c.room) (held_others k at))

    enters : (d : Connection) → length store ≡ store_size → Absent node (live m) → length (live m) < 8
        → start_on m job n store (fresh m node) ≡ Ok d
        → holding (table_of (insert_in d (live m)) (number_of m)) (store_with job store (fresh m node)) other ≡ holding m store other
    enters d long unheld few e =
        let c : Connection = fresh m node in
        let s : Same c d = started_same job c d (number_of m) n (room_in store c) e in
        tells (insert_in d (live m)) (number_of m) (store_with job store c)
        (look_insert node other differ (store_with job store c) (live m) d s.0
        ∙ elsewhere long c (free_slotted (live m)) _
        (started_room job c d (number_of m) n (room_in store c) e ∙ room_length store long c.room) (new_others unheld few))

    pub start_quiet : (output : Bytes) → Of Quiet (called m store output (starts node job n))
    start_quiet output =
        start_by m node job n store output Quiet (λ r e. (refl, refl, refl)) (λ r e k f. (refl, refl, refl))
        (λ k d long at e. (again k d long at e, refl, refl)) (λ d long unheld few e. (enters d long unheld few e, refl, refl))
        (λ r e f unheld few. (
          tells (insert_in (fresh m node) (live m)) (number_of m) store
              (look_insert node other differ store (live m) (fresh m node) refl),
          refl,
          refl,
        ))

call_quiet : (m : Manager) (store output : Bytes) → Sound m store → (x : Call) (node : ℕ) → ForAnother node x
    → holding (called m store output x).done.manager (called m store output x).store node ≡ holding m store node
call_quiet m store output sound (starts k job n) node ne = (start_quiet m store sound k node (λ e. ne (sym e)) job n output).0
call_quiet m store output sound (turns t n) node ne = absurd ne
call_quiet m store output sound (replies k seq cmd payload) node ne =
    (reply_quiet m store sound k node (λ e. ne (sym e)) seq cmd payload output).0

pub quiet_others : QuietOthers
unfolding QuietOthers Reached
quiet_others lent earlier x node ne = go x.lends
  where
    host : Host
    host = reached lent earlier

    go : (l : Lends)
        → let after : Host = next host (record { call = x.call; lends = l; output = x.output }) in
        holding after.manager after.store node ≡ holding host.manager host.store node
    go own = call_quiet host.manager host.store x.output (all_sound lent earlier) x.call node ne
    go (another store differs) =
        ap (λ (k : Host). holding k.manager k.store node) (nothing_happened host x.call store x.output differs)
