-- How a call looks from one node: what is held for it, what the call gives it, the end that is reported of it, and what is held for it afterwards. Proofs
-- about one node's job go by these cases, and never look at the table.
use Rattle.std.specs.Prelude.{Option, Some, None, Ok, option_map, IfSome}
use Prim.Native.Nat.{ℕ}
use mathlib.Core.Path.{◌≡◌}
use mathlib.Core.List.{[]}
use mathlib.Core.Logic.{◌⊎◌}
use Rattle.codec.specs.Bytes.{Bytes}
use Rattle.con_rec.specs.Commands.{command_of, sequence_of}
use Rattle.con_rec.specs.Payload.{payload_of}
use Rattle.con_rec.specs.Record.{end_of, new_connection}
use Rattle.con_reply.specs.Reply.{replied, reply_of, room_after}
use Rattle.man_table.specs.Table.{room_in}
use Rattle.manager.specs.Calls.{Call, Job, job_room, replies, start_job, starts, turns}
use Rattle.manager.specs.Value.{value_of}
use Rattle.man_table.specs.Walk.{at_turn}
use Rattle.theorems.specs.Quiet.{Holding}
use Rattle.theorems.specs.Story.{Gave}
use Rattle.theorems.specs.Types.{
  Answer,
  End,
  Now,
  Outgoing,
  Refusal,
  SdoClientConnection as Connection,
  SdoCommand,
  SequenceLayerHeader,
  Turn,
}
use Rattle.theorems.proofs.Tracked.{held_after}

abbrev pub IsRefused : Answer → Type 0
IsRefused Answer.Nothing = ⊥
IsRefused (Answer.Sent s) = ⊥
IsRefused (Answer.Value part) = ⊥
IsRefused (Answer.Refused r) = Unit {0}

-- A start or a reply that leaves the node alone: for another node, or refused. Of a turn nothing is said.
abbrev pub Apart : ℕ → Call → Answer → Type 0
Apart node (starts k job n) a = (k ≡ node → ⊥) ⊎ IsRefused a
Apart node (turns t n) a = Unit {0}
Apart node (replies k seq cmd payload) a = (k ≡ node → ⊥) ⊎ IsRefused a

-- what a connection gives
abbrev pub gave_by : Bytes → Option Outgoing → Gave
gave_by room x = option_map (λ (o : Outgoing). (sequence_of o, command_of o, payload_of room o)) x

-- the connection that a start goes to: the one held, or a new one
abbrev pub Seat : Holding → Connection → Type 0
Seat h c = IfSome h (λ (p : Connection × Bytes). c ≡ p.0)

-- the bytes of the room of what was held before
abbrev pub bytes_of : Holding → Bytes
bytes_of None = []
bytes_of (Some (c, room)) = room

abbrev pub bytes_in : Holding → Bytes → Bytes
bytes_in None store = []
bytes_in (Some (c, room)) store = room_in store c

-- what is held before, the call, its answer, what it gives the node, the end reported, what is held after, and the bytes then in the room of what was
-- held before
pub data NodeView (node : ℕ) : Holding → Call → Answer → Gave → Option End → Holding → Bytes → Type 0 where
  -- it is not concerned
  rests : {h : Holding} {x : Call} {a : Answer} → Apart node x a → NodeView node h x a None None h (bytes_of h)
  -- a reply from a node that is not held
  unknown : {seq : SequenceLayerHeader} {cmd : SdoCommand} {payload : Bytes}
      → NodeView node None (replies node seq cmd payload) Answer.Nothing None None None []
  -- its job begins
  begins : {h : Holding} {job : Job} {n : Now} {d : Connection} {after : Bytes} (c : Connection) (t : ℕ) (room : Bytes) → Seat h c
      → start_job job c t n room ≡ Ok d
      → NodeView node h (starts node job n) Answer.Nothing None None (Some (d, job_room job room)) after
  -- a start for a new node is refused, and an Idle connection entered
  idles : {job : Job} {n : Now} {r : Refusal} {at : ℕ} {room : Bytes}
      → NodeView node None (starts node job n) (Answer.Refused r) None None (Some (new_connection node at, room)) []
  -- its turn comes
  steps : {t : Turn} {n : Now} {a : Answer} {c d : Connection} {room : Bytes} {x : Option Outgoing}
      → at_turn t c n ≡ Ok (record { connection = d; sends = x })
      → NodeView node (Some (c, room)) (turns t n) a (gave_by room x) (end_of d) (held_after (end_of d) d room) room
  -- its reply is taken
  answers : {seq : SequenceLayerHeader} {cmd : SdoCommand} {payload : Bytes} {c d : Connection} {room : Bytes}
      → replied (reply_of seq cmd payload c room) ≡ Ok d
      → NodeView node (Some (c, room)) (replies node seq cmd payload) (value_of d) None (end_of d)
      (held_after (end_of d) d (room_after (reply_of seq cmd payload c room) payload room)) (room_after (reply_of seq cmd payload c room) payload room)
