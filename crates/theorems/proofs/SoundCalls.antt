-- Ask, tick and a reply leave a sound manager sound, with the store that they leave.
use Rattle.std.specs.Prelude.{All, Result, Ok, Err}
use Rattle.std.proofs.lemmas.List.Elements.{All-set, length_all_zip}
use Rattle.std.specs.List.{AllZip}
use Prim.Native.Nat.{ℕ, ◌≤◌}
use native.Mathlib.Omega.{arith}
use mathlib.Core.Path.{◌≡◌, sym, ◌∙◌, subst}
use mathlib.Core.List.{List, [], ◌∷◌}
use lib.ListN.{length, set, length-set, get_or}
use Rattle.codec.specs.Bytes.{Bytes}
use Rattle.connection.specs.Ask.{ask_of}
use Rattle.con_reply.specs.Consistent.{Consistent}
use Rattle.con_reply.specs.Jobs.{loads as sends_dcf, writes as sends_write}
use Rattle.con_reply.specs.Reply.{replied, reply_of, room_after}
use Rattle.connection.specs.Tick.{tick_of}
use Rattle.con_reply.proofs.ReplySound.{reply_sound as replied-sound}
use Rattle.con_reply.proofs.StartCarries.{begun_job_lem}
use Rattle.con_reply.proofs.StepSound.{Steps, ask_sound, other_room, read_sound, tick_sound}
use Rattle.con_reply.proofs.StoresWithin.{replied_room}
use Rattle.manager.specs.Calls.{Job, job_room, loads, reads, start_job, with_room, writes}
use Rattle.man_table.specs.Sweep.{running}
use Rattle.man_table.specs.Table.{blank, live, room_size, store_size, table_of, held_at, room_in}
use Rattle.man_table.specs.Walk.{Walking, at_turn, walk_list}
use Rattle.theorems.specs.Sound.{Ordered, Sane, Slotted, Sound}
use Rattle.theorems.specs.Types.{
  Now,
  Refusal,
  SdoClientConnection as Connection,
  SdoClientManager as Manager,
  SdoCommand,
  SequenceLayerHeader,
  Step,
  Turn,
}
use Rattle.theorems.proofs.AllLists.{all_each, each_set}
use Rattle.theorems.proofs.Cases.{At}
use Rattle.theorems.proofs.NodeAndRoom.{Same, replied_same}
use Rattle.theorems.proofs.OrderedTables.{ordered_each}
use Rattle.theorems.proofs.Rooms.{put_length, room_length}
use Rattle.theorems.proofs.SoundTables.{Fit, fit_in, swept_sound}
use Rattle.theorems.proofs.WalkSteps.{StepBy, WalkBy, same_self, turn_same, walk_by}

-- a job that starts is consistent with its bytes in the room
pub started_sound : (job : Job) (c d : Connection) (t : ℕ) (n : Now) (room : Bytes) → start_job job c t n room ≡ Ok d
    → Consistent d (job_room job room)
started_sound (writes mode index sub bytes) c d t n room e = (begun_job_lem c t n (sends_write mode index sub bytes) room d e).consistent
started_sound (reads mode index sub) c d t n room e = read_sound c t n mode index sub room d e
started_sound (loads mode dcf) c d t n room e = (begun_job_lem c t n (sends_dcf mode dcf) room d e).consistent

-- a step keeps node and room, and what is fit
abbrev Keeps : Bytes → Connection → Connection → Type 0
Keeps store c d = Same c d × (Fit store c → Fit store d)

step_keeps : (store : Bytes) (c : Connection) (s : Result Step Refusal) → StepBy Same c s
    → (Consistent c (room_in store c) → Steps (room_in store c) s) → StepBy (Keeps store) c s
unfolding Steps
step_keeps store c (Err r) f i = tt
step_keeps store c (Ok s) f i = (
  f,
  λ (h : Fit store c).
      fit_in c s.connection store (room_in store c) f h.slotted (rw f.1) (i h.consistent),
)

turn_keeps : (store : Bytes) (t : Turn) (n : Now) (c : Connection) → StepBy (Keeps store) c (at_turn t c n)
turn_keeps store Turn.Asking n c =
    step_keeps store c (ask_of c n) (turn_same Turn.Asking n c) (λ i. ask_sound c (room_in store c) i n)
turn_keeps store Turn.Ticking n c =
    step_keeps store c (tick_of c n) (turn_same Turn.Ticking n c) (λ i. tick_sound c (room_in store c) i n)

each_same_of : (store : Bytes) (l k : List Connection) → AllZip (Keeps store) l k → AllZip Same l k
each_same_of store [] [] e = tt
each_same_of store [] (y ∷ k) e = absurd e
each_same_of store (x ∷ l) [] e = absurd e
each_same_of store (x ∷ l) (y ∷ k) e = (e.0.0, each_same_of store l k e.1)

module _ (m : Manager) (store : Bytes) (sound : Sound m store) where
  fit : All (Fit store) (live m)
  fit k d h = record { slotted = (sound.each k d h).slotted; consistent = (sound.each k d h).consistent }

  -- ---- ask and tick
  pub walked_sound : (l : List Connection) → AllZip (Keeps store) (live m) l → Sound (table_of (running l) m.next_transaction_id) store
  walked_sound l e =
      swept_sound l m.next_transaction_id store (omega (arith, length_all_zip (Keeps store) (live m) l e, sound.few))
      (ordered_each (live m) l (each_same_of store (live m) l e) sound.ordered)
      (all_each (Fit store) (Keeps store) (λ c d k h. k.1 h) (live m) l e fit) sound.number

  pub turn_sound : (t : Turn) (n : Now) (w : Walking) → walk_list t n (live m) ≡ w → WalkBy (Keeps store) (live m) w
  turn_sound t n w e =
      subst (WalkBy (Keeps store) (live m)) e
      (walk_by (Keeps store) (λ c. (same_self c, λ h. h)) t n (turn_keeps store t n) (live m))

  -- ---- a room's bytes changed: the other connections stay fit, for only lengths matter
  module _ (long : length store ≡ store_size) (c : Connection) (room : Bytes) (size : length room ≡ room_size) where
    lengths : (x : Connection) → length (room_in store x) ≡ length (room_in (with_room store c room) x)
    lengths x =
        room_length store long x.room
        ∙ sym (room_length (with_room store c room) (put_length store long c.room room size) x.room)

    pub sane_there : (x : Connection) → Sane store x → Sane (with_room store c room) x
    sane_there x s =
        record {
          slotted = s.slotted;
          runs = s.runs;
          opened = s.opened;
          consistent = other_room x (room_in store x) (room_in (with_room store c room) x) (lengths x) s.consistent;
        }

    fit_there : (x : Connection) → Fit store x → Fit (with_room store c room) x
    fit_there x f =
        record {
          slotted = f.slotted;
          consistent = other_room x (room_in store x) (room_in (with_room store c room) x) (lengths x) f.consistent;
        }

    -- the connection whose room it is
    pub fit_new : (d : Connection) → Same c d → Slotted c.room → Consistent d room → Fit (with_room store c room) d
    fit_new d s slot i =
        fit_in c d (with_room store c room) room s slot
        (size ∙ sym (room_length (with_room store c room) (put_length store long c.room room size) d.room)) i

  -- ---- a connection replaced at its place
  pub few_set : (k : ℕ) (d : Connection) → length (set (live m) k d) ≤ 8
  few_set k d = rw (length-set (live m) k d) sound.few

  pub ordered_set : (k : ℕ) (d : Connection) → Same (held_at m k) d → Ordered (set (live m) k d)
  ordered_set k d s = ordered_each (live m) (set (live m) k d) (each_set Same same_self (live m) k blank d s) sound.ordered

  pub slot_at : (node k : ℕ) → At node (live m) k → Slotted (held_at m k).room
  slot_at node k at = (fit k blank at.1).slotted

  -- ---- reply
  pub reply_sound : (node : ℕ) (seq : SequenceLayerHeader) (cmd : SdoCommand) (payload : Bytes) (k : ℕ) (d : Connection)
      → length store ≡ store_size → At node (live m) k
      → replied (reply_of seq cmd payload (held_at m k) (room_in store (held_at m k))) ≡ Ok d
      → Sound (table_of (running (set (live m) k d)) m.next_transaction_id)
      (with_room store (held_at m k)
      (room_after (reply_of seq cmd payload (held_at m k) (room_in store (held_at m k))) payload (room_in store (held_at m k))))
  reply_sound node seq cmd payload k d long at e =
      let c : Connection = held_at m k in
      let before : Bytes = room_in store c in
      let room : Bytes = room_after (reply_of seq cmd payload c before) payload before in
      let size : length room ≡ room_size = replied_room seq cmd payload c before ∙ room_length store long c.room in
      let s : Same c d = replied_same seq cmd payload c before d e in
      let held : Fit store c = fit k blank at.1 in
      let i : Consistent d room = replied-sound c before held.consistent seq cmd payload d e in
      swept_sound (set (live m) k d) m.next_transaction_id (with_room store c room) (few_set k d) (ordered_set k d s)
      (All-set (Fit (with_room store c room)) (live m) k d (fit_new long c room size d s held.slotted i)
      (λ j x h. fit_there long c room size (get_or (live m) j x) (fit j x h)))
      sound.number
