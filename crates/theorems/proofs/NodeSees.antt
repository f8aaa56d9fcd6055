-- Every call is one of the cases of `NodeView`: from a sound table with its order, its rooms and its walk to what one node sees of it.
use Rattle.std.specs.Prelude.{All, Option, Some, None, Ok}
use Rattle.std.proofs.lemmas.List.Elements.{All-head, All-tail}
use Rattle.std.proofs.lemmas.Option.{some_pair_parts}
use Prim.Native.Nat.{ℕ, ◌≤◌, ◌<◌}
use native.Mathlib.Decide.{ℕ_discrete}
use native.Mathlib.Omega.{arith}
use mathlib.Core.Path.{◌≡◌, refl, sym, ◌∙◌, ap, subst}
use mathlib.Core.Bool.{Bool, true, false}
use mathlib.Core.List.{List, [], ◌∷◌}
use mathlib.Core.Logic.{◌⊎◌, inl, inr}
use lib.Dec.{eqb}
use lib.ListN.{length, take, drop, get_or, set}
use lib.Seq.{take_at}
use borrow.Author.Tests.{eq-eqb, ne_eqb, le-leb}
use Rattle.laws.specs.Pick.{pick}
use Rattle.codec.specs.Bytes.{Bytes}
use Rattle.codec.specs.Writing.{buffer_after}
use Rattle.con_rec.specs.Commands.{command_of, sequence_of}
use Rattle.con_rec.specs.Payload.{payload_of}
use Rattle.con_rec.specs.Record.{end_of}
use Rattle.con_reply.specs.Reply.{reply_of, room_after}
use Rattle.con_reply.specs.Sent.{Sized}
use Rattle.con_reply.proofs.StoresWithin.{replied_room}
use Rattle.manager.specs.Calls.{After, Call, Job, called, job_room, number_of, output_size, replies, sent_to, starts, turns, with_room}
use Rattle.manager.proofs.WalkCalls.{live_table}
use Rattle.man_table.specs.Sweep.{ends_in, running}
use Rattle.man_table.specs.Table.{blank, find_in, free_room, held_at, insert_in, live, room_in, store_size, table_of}
use Rattle.man_table.specs.Walk.{Walking, stopped, through, walk_list}
use Rattle.theorems.specs.Quiet.{Holding, holding, holding_in}
use Rattle.theorems.specs.Run.{Event, Host, Lends, another, made, next, own, reported}
use Rattle.theorems.specs.Sound.{Sane, Sound}
use Rattle.theorems.specs.Story.{Gave, end_for, gave_to}
use Rattle.theorems.specs.Types.{
  Answer,
  End,
  Now,
  Outgoing,
  Refusal,
  SdoClientConnection as Connection,
  SdoClientManager as Manager,
  SdoCommand,
  SequenceLayerHeader,
  Turn,
}
use Rattle.theorems.proofs.AllLists.{all_each}
use Rattle.theorems.proofs.Cases.{Absent, At, FoundAs, Of, OtherNode, Shown, found_as, gives_none, reply_by_lem, turn_by}
use Rattle.theorems.proofs.FreeRooms.{free_nobodys}
use Rattle.theorems.proofs.JobStarts.{started_room, started_same}
use Rattle.theorems.proofs.NodeAndRoom.{Same, replied_same}
use Rattle.theorems.proofs.OrderedTables.{InSlot, nowhere, ordered_tracks}
use Rattle.theorems.proofs.OthersQuiet.{reply_quiet, start_quiet}
use Rattle.theorems.proofs.Rooms.{put_own, room_at, room_length}
use Rattle.theorems.proofs.StartBy.{fresh, start_by, start_on, store_with}
use Rattle.theorems.proofs.Tracked.{
  Other,
  Tracks,
  held_after,
  insert_own,
  no_end_lem,
  nothing_held,
  sweep,
  tracked_holding,
  tracks_own,
}
use Rattle.theorems.proofs.TrackedWalk.{Gives, Sees, Turned, Walked, stepped, unreached, walk_sees}
use Rattle.theorems.proofs.WalkSteps.{StepBy, WalkBy, WalkSized, all_running, turn_same, walk_same, walk_sized}
use Rattle.theorems.proofs.WrongStore.{wrong_store}
use Rattle.theorems.proofs.NodeView.{Apart, NodeView, Seat, answers, begins, bytes_in, bytes_of, gave_by, idles, rests, steps, unknown}

-- ---- the payload at the start of the output is the one that was put there
read_out : (output room : Bytes) (o : Outgoing) → output_size ≤ length output → Sized room (Some o)
    → take (command_of o).header.segment_size (buffer_after (payload_of room o) output) ≡ payload_of room o
unfolding buffer_after pick
read_out output room o long z =
    let fits : length (payload_of room o) ≤ length output = omega (arith, z.0, z.1) in
    rw (le-leb (length (payload_of room o)) (length output) fits)
    (take_at (payload_of room o) (drop (length (payload_of room o)) output) (command_of o).header.segment_size z.0)

-- ---- what is held is a connection of the table, with the bytes of its room
pub held_is : (node : ℕ) (store : Bytes) (P : Connection → Type 0) (l : List Connection) → All P l → (c : Connection) (room : Bytes)
    → holding_in node l store ≡ Some (c, room) → P c × (room ≡ room_in store c)
unfolding pick
held_is node store P [] a c room e = cc
held_is node store P (x ∷ l) a c room e = go (eqb x.target_node_id node) e (held_is node store P l (All-tail P x l a) c room)
  where
    go : (b : Bool) → pick b (Some (x, room_in store x)) (holding_in node l store) ≡ Some (c, room)
        → (holding_in node l store ≡ Some (c, room) → P c × (room ≡ room_in store c)) → P c × (room ≡ room_in store c)
    go true h more =
        let same = some_pair_parts x c (room_in store x) room h in
        (subst P same.0 (All-head P x l a), sym same.1 ∙ ap (room_in store) same.0)
    go false h more = more h

module _ (m : Manager) (store : Bytes) (sound : Sound m store) (node : ℕ) where
  abbrev before : Holding
  before = holding m store node

  abbrev Sees-by : Call → Shown
  Sees-by x k after out a es = NodeView node before x a (gave_to node out a) (end_for node es) (holding k after node) (bytes_in before after)

  -- a view, its parts replaced by equal ones
  seen : {h g : Holding} {x : Call} {a : Answer} {u v : Gave} {e f : Option End} {i j : Holding} {p q : Bytes} → h ≡ g → u ≡ v → e ≡ f → i ≡ j
      → p ≡ q → NodeView node h x a u e i p → NodeView node g x a v f j q
  seen {h} {g} {x} {a} {u} {v} {e} {f} {i} {j} {p} {q} hg uv ef ij pq view =
      subst (λ (y : Holding). NodeView node y x a v f j q) hg
      (subst (λ (y : Gave). NodeView node h x a y f j q) uv
      (subst (λ (y : Option End). NodeView node h x a u y j q) ef
      (subst (λ (y : Holding). NodeView node h x a u e y q) ij (subst (NodeView node h x a u e i) pq view))))

  -- where the same is held after, its room has the same bytes
  bytes_stay : (k : Manager) (after : Bytes) → holding k after node ≡ before → bytes_of before ≡ bytes_in before after
  bytes_stay k after e = go before (λ c room i. (held_is node after (λ (x : Connection). Unit {0}) (live k) (λ j d h. tt) c room i).1) e
    where
      go : (h : Holding) → ((c : Connection) (room : Bytes) → holding k after node ≡ Some (c, room) → room ≡ room_in after c)
          → holding k after node ≡ h → bytes_of h ≡ bytes_in h after
      go None f i = refl
      go (Some (c, room)) f i = f c room i

  stays : {x : Call} {a : Answer} → Apart node x a → NodeView node before x a None None before (bytes_in before store)
  stays p = seen refl refl refl refl (bytes_stay m store refl) (rests p)

  slots : All InSlot (live m)
  slots = λ k d h. (sound.each k d h).slotted

  -- ---- it is not held
  module _ (absent : Absent node (live m)) where
    unheld : before ≡ None
    unheld = nothing_held node store (live m) absent

    -- a walk of the others
    absent_walk : (t : Turn) (n : Now) (output : Bytes) → Of (Sees-by (turns t n)) (called m store output (turns t n))
    unfolding pick
    absent_walk t n output =
        turn_by t m n store output (Sees-by (turns t n)) (λ r. stays tt)
        (λ l long fits e.
        let none-there : Absent node l = all_each (OtherNode node) Same away (live m) l (walked (through l) e) absent in
        seen refl refl (sym (no_end_lem node store l none-there)) (after l none-there) (bytes_stay m store refl) (rests tt))
        (λ k o l long fits e.
        let by : WalkBy Same (live m) (stopped k o l) = walked (stopped k o l) e in
        let none-there : Absent node l = all_each (OtherNode node) Same away (live m) l by.0 absent in
        seen refl
        (rw (ne_eqb (get_or l k blank).target_node_id node (none-there k blank by.1)) refl)
        (sym (no_end_lem node store l none-there)) (after l none-there) (bytes_stay m store refl) (rests tt))
      where
        away : (x y : Connection) → Same x y → OtherNode node x → OtherNode node y
        away x y s ne e = ne (sym s.0 ∙ e)

        walked : (w : Walking) → walk_list t n (live m) ≡ w → WalkBy Same (live m) w
        walked w e = subst (WalkBy Same (live m)) e (walk_same t n (live m))

        after : (l : List Connection) → Absent node l → before ≡ holding (table_of (running l) m.next_transaction_id) store node
        after l a =
            unheld
            ∙ sym
            (ap (λ (x : List Connection). holding_in node x store) (live_table (running l) m.next_transaction_id)
            ∙ nothing_held node store (running l) (all_running (OtherNode node) l a))

  -- ---- it is held
  module _ (k : ℕ) (at : At node (live m) k) where
    abbrev c : Connection
    c = held_at m k

    abbrev room : Bytes
    room = room_in store c

    stands : Tracks node c.room (λ (y : Connection). y ≡ c) (live m)
    stands = ordered_tracks node (live m) sound.ordered slots k at

    held : before ≡ Some (c, room)
    held = tracked_holding node c.room store c stands

    sane : Sane store c
    sane = sound.each k blank at.1

    module _ (t : Turn) (n : Now) where
      turned_view : {x : Option Outgoing} {d : Connection} (a : Answer) → Turned t n c x d
          → NodeView node (Some (c, room)) (turns t n) a (gave_by room x) (end_of d) (held_after (end_of d) d room) room
      turned_view a unreached = rw sane.runs (rests tt)
      turned_view a (stepped e) = steps e

      turned_same : {x : Option Outgoing} {d : Connection} → Turned t n c x d → Same c d
      turned_same unreached = (refl, refl)
      turned_same (stepped e) = subst (StepBy Same c) e (turn_same t n c)

      walked : (w : Walking) → walk_list t n (live m) ≡ w → Sees t n node c.room c w
      walked w e = subst (Sees t n node c.room c) e (walk_sees t n node c.room c stands)

      -- after the sweep
      swept : {u : Gave} {x : Option Outgoing} (a : Answer) (l : List Connection) → gave_by room x ≡ u → Walked t n node c.room c x l
          → NodeView node before (turns t n) a u (end_for node (ends_in l)) (holding (table_of (running l) m.next_transaction_id) store node) (bytes_in before store)
      swept a l g w =
          let s = sweep node c.room store w.then w.tracks in
          seen (sym held) g (sym s.1)
          (sym (ap (λ (x : List Connection). holding_in node x store) (live_table (running l) m.next_transaction_id) ∙ s.0))
          (ap (λ (h : Holding). bytes_in h store) (sym held)) (turned_view a w.turned)

      -- what the walk gives
      given : (output : Bytes) → output_size ≤ length output → (o : Outgoing) (d : Connection) → Turned t n c (Some o) d
          → Sized (room_in store d) (Some o) → gave_by room (Some o) ≡ gave_to node (buffer_after (payload_of (room_in store d) o) output) (sent_to d o)
      unfolding pick
      given output fits o d u z =
          let s : Same c d = turned_same u in
          rw (eq-eqb d.target_node_id node (s.0 ∙ at.0))
          (ap (λ (b : Bytes). Some (sequence_of o, command_of o, payload_of b o)) (ap (room_at store) (sym s.1))
          ∙ ap (λ (b : Bytes). Some (sequence_of o, command_of o, b)) (sym (read_out output (room_in store d) o fits z)))

      given_other : (output : Bytes) (o : Outgoing) (d : Connection) → Other node c.room d → None ≡ gave_to node output (sent_to d o)
      unfolding pick
      given_other output o d x = rw (ne_eqb d.target_node_id node x.node_differs) refl

      held_walk : (output : Bytes) → Of (Sees-by (turns t n)) (called m store output (turns t n))
      held_walk output =
          turn_by t m n store output (Sees-by (turns t n)) (λ r. stays tt)
          (λ l long fits e. swept Answer.Nothing l refl (walked (through l) e))
          (λ j o l long fits e.
          stops j o l fits (subst (WalkSized store) e (walk_sized t n store (live m) sound.each)) (walked (stopped j o l) e))
        where
          stops : (j : ℕ) (o : Outgoing) (l : List Connection) → output_size ≤ length output
              → Sized (room_in store (get_or l j blank)) (Some o)
              → Gives t n node c.room c j o l ⊎ (Walked t n node c.room c None l × Other node c.room (get_or l j blank))
              → Sees-by (turns t n) (table_of (running l) m.next_transaction_id) store
              (buffer_after (payload_of (room_in store (get_or l j blank)) o) output) (sent_to (get_or l j blank) o) (ends_in l)
          stops j o l fits z (inl g) =
              swept _ l
              (given output fits o g.walked.then g.walked.turned
              (subst (λ (d : Connection). Sized (room_in store d) (Some o)) g.is z)
              ∙ ap (λ (d : Connection). gave_to node (buffer_after (payload_of (room_in store d) o) output) (sent_to d o)) (sym g.is))
              g.walked
          stops j o l fits z (inr (w, other)) = swept _ l (given_other _ o (get_or l j blank) other) w

  -- ---- a start for the node itself
  module _ (job : Job) (n : Now) where
    -- its bytes are in its room
    module _ (long : length store ≡ store_size) (c d : Connection) (e : start_on m job n store c ≡ Ok d) where
      stored : room_at (store_with job store c) c.room ≡ job_room job (room_in store c)
      stored =
          put_own store long c.room _
          (started_room job c d (number_of m) n (room_in store c) e ∙ room_length store long c.room)

      begun : Seat before c → (l : List Connection) → Tracks node c.room (λ (y : Connection). y ≡ d) l
          → Sees-by (starts node job n) (table_of l (number_of m)) (store_with job store c) [] Answer.Nothing []
      begun seat l u =
          seen refl refl refl
          (sym
          (ap (λ (x : List Connection). holding_in node x (store_with job store c)) (live_table l (number_of m))
          ∙ tracked_holding node c.room (store_with job store c) d u
          ∙ ap (λ (b : Bytes). Some (d, b)) stored))
          refl (begins c (number_of m) (room_in store c) seat e)

    own_start : (output : Bytes) → Of (Sees-by (starts node job n)) (called m store output (starts node job n))
    own_start output =
        start_by m node job n store output (Sees-by (starts node job n)) (λ r e. stays (inr tt)) (λ r e k f. stays (inr tt))
        (λ k d long at e.
        begun long (held_at m k) d e (subst (λ (h : Holding). Seat h (held_at m k)) (sym (held k at)) refl) (set (live m) k d)
        (tracks_own node (held_at m k).room _ (λ (y : Connection). y ≡ d) k d at.1 at.0
        (started_same job (held_at m k) d (number_of m) n (room_in store (held_at m k)) e) refl
        (ordered_tracks node (live m) sound.ordered slots k at)))
        (λ d long absent few e.
        let s : Same (fresh m node) d = started_same job (fresh m node) d (number_of m) n (room_in store (fresh m node)) e in
        begun long (fresh m node) d e (subst (λ (h : Holding). Seat h (fresh m node)) (sym (unheld absent)) tt) (insert_in d (live m))
        (inserted d absent few s))
        (λ r e f absent few.
        seen (sym (unheld absent)) refl refl
        (sym
        (ap (λ (x : List Connection). holding_in node x store) (live_table (insert_in (fresh m node) (live m)) (number_of m))
        ∙ tracked_holding node (free_room (live m)) store (fresh m node) (inserted (fresh m node) absent few (refl, refl))))
        (ap (λ (h : Holding). bytes_in h store) (sym (unheld absent))) idles)
      where
        inserted : (d : Connection) → Absent node (live m) → length (live m) < 8 → Same (fresh m node) d
            → Tracks node (free_room (live m)) (λ (y : Connection). y ≡ d) (insert_in d (live m))
        inserted d absent few s =
            insert_own node (free_room (live m)) (λ (y : Connection). y ≡ d) d s.0 s.1 refl (live m)
            (nowhere node (free_room (live m)) (live m) absent (free_nobodys (live m) few) slots)

  -- ---- a reply from the node itself
  own_reply : (seq : SequenceLayerHeader) (cmd : SdoCommand) (payload output : Bytes)
      → Of (Sees-by (replies node seq cmd payload)) (called m store output (replies node seq cmd payload))
  own_reply seq cmd payload output =
      reply_by_lem m node seq cmd payload store output (Sees-by (replies node seq cmd payload)) (λ r. stays (inr tt))
      (λ absent.
      seen (sym (unheld absent)) refl refl (sym (unheld absent)) (ap (λ (h : Holding). bytes_in h store) (sym (unheld absent))) unknown)
      (λ k d long at e.
      let c : Connection = held_at m k in
      let after : Bytes = room_after (reply_of seq cmd payload c (room_in store c)) payload (room_in store c) in
      let u : Tracks node c.room (λ (y : Connection). y ≡ d) (set (live m) k d) =
      tracks_own node c.room _ (λ (y : Connection). y ≡ d) k d at.1 at.0
      (replied_same seq cmd payload c (room_in store c) d e) refl (stands k at) in
      let s = sweep node c.room (with_room store c after) d u in
      let own : room_at (with_room store c after) c.room ≡ after =
      put_own store long c.room after (replied_room seq cmd payload c (room_in store c) ∙ room_length store long c.room) in
      seen (sym (held k at)) (sym (gives_none node output d)) (sym s.1)
      (sym
      (ap (λ (x : List Connection). holding_in node x (with_room store c after)) (live_table (running (set (live m) k d)) m.next_transaction_id)
      ∙ s.0
      ∙ ap (held_after (end_of d) d) own))
      (sym own ∙ ap (λ (h : Holding). bytes_in h (with_room store c after)) (sym (held k at))) (answers e))

  -- ---- any call
  pub call_view : (output : Bytes) (x : Call) → Of (Sees-by x) (called m store output x)
  call_view output (turns t n) = go (find_in node (live m)) (found_as node (live m))
    where
      go : (f : Option ℕ) → FoundAs node (live m) f → Of (Sees-by (turns t n)) (called m store output (turns t n))
      go (Some k) at = held_walk k at t n output
      go None absent = absent_walk absent t n output
  call_view output (starts k job n) = go (ℕ_discrete k node)
    where
      go : Dec (k ≡ node) → Of (Sees-by (starts k job n)) (called m store output (starts k job n))
      go (yes e) = rw e (own_start job n output)
      go (no ne) =
          let q = start_quiet m store sound k node (λ e. ne (sym e)) job n output in
          seen refl (sym q.1) (sym q.2) (sym q.0)
          (bytes_stay (called m store output (starts k job n)).done.manager (called m store output (starts k job n)).store q.0) (rests (inl ne))
  call_view output (replies k seq cmd payload) = go (ℕ_discrete k node)
    where
      go : Dec (k ≡ node) → Of (Sees-by (replies k seq cmd payload)) (called m store output (replies k seq cmd payload))
      go (yes e) = rw e (own_reply seq cmd payload output)
      go (no ne) =
          let q = reply_quiet m store sound k node (λ e. ne (sym e)) seq cmd payload output in
          seen refl (sym q.1) (sym q.2) (sym q.0)
          (bytes_stay (called m store output (replies k seq cmd payload)).done.manager
          (called m store output (replies k seq cmd payload)).store q.0) (rests (inl ne))

-- with the host's store lent, or one of another length
pub event_view : (h : Host) → Sound h.manager h.store → (node : ℕ) (x : Event)
    → NodeView node (holding h.manager h.store node) x.call (made h x).done.answer
    (gave_to node (made h x).output (made h x).done.answer) (end_for node (reported (made h x)))
    (holding (next h x).manager (next h x).store node) (bytes_in (holding h.manager h.store node) (next h x).store)
event_view h sound node x = go x.lends
  where
    refused_apart : (y : Call) (r : Refusal) → Apart node y (Answer.Refused r)
    refused_apart (starts k job n) r = inr tt
    refused_apart (turns t n) r = tt
    refused_apart (replies k seq cmd payload) r = inr tt

    go : (l : Lends)
        → let y : Event = record { call = x.call; lends = l; output = x.output } in
        NodeView node (holding h.manager h.store node) x.call (made h y).done.answer
        (gave_to node (made h y).output (made h y).done.answer) (end_for node (reported (made h y)))
        (holding (next h y).manager (next h y).store node) (bytes_in (holding h.manager h.store node) (next h y).store)
    go own = call_view h.manager h.store sound node x.output x.call
    go (another store differs) =
        subst
        (λ (a : After).
        NodeView node (holding h.manager h.store node) x.call a.done.answer (gave_to node a.output a.done.answer)
        (end_for node (reported a)) (holding a.done.manager h.store node) (bytes_in (holding h.manager h.store node) h.store))
        (sym (wrong_store h.manager store x.output x.call differs))
        (stays h.manager h.store sound node (refused_apart x.call Refusal.WrongStore))
