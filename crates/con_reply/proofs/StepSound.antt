-- A new connection is consistent with its room, and so is one whose read was started; ask and tick leave a consistent one so, and what they give of it
-- is as long as its segment size says.
use Rattle.std.specs.Prelude.{Option, Some, None, Result, Ok, Err}
use Rattle.codec.specs.declared.refusal.Refusal.{Refusal}
use Rattle.codec.specs.declared.dcf.Transfer.{Transfer}
use Rattle.con_rec.specs.declared.Outgoing.{Outgoing}
use Rattle.con_rec.specs.declared.Reason.{Reason}
use Rattle.con_rec.specs.declared.Step.{Step}
use Prim.Native.Nat.{ℕ, ◌+◌, ◌≤◌}
use native.Mathlib.Omega.{arith}
use mathlib.Core.Path.{◌≡◌, refl, ◌∙◌, ap, subst}
use mathlib.Core.Bool.{false}
use lib.ListN.{length}
use Rattle.codec.specs.Bytes.{Bytes}
use Rattle.con_rec.proofs.Wires.{part_length_lem}
use Rattle.con_rec.specs.declared.Message.{Message}
use Rattle.connection.proofs.StartView.{StartView, begun, busy, full, late, read_view, short}
use Rattle.connection.proofs.TurnView.{AskView, Given, TickView, again, ask_view, early, ends, first, gives, late as too-late, later, never, next, opening, over, reading, silent, tick_view}
use Rattle.connection.specs.Ask.{ask_of, finish}
use Rattle.con_reply.specs.Consistent.{Consistent, LiesIn, LoadsIn, PartOf, WaitsIn, WaitsWith, awaiting, is_closed, is_downloading, is_ended}
use Rattle.con_reply.specs.Sent.{AllSized, Sized}
use Rattle.con_rec.specs.Commands.{abort_command, command_by}
use Rattle.con_rec.specs.Parts.{most}
use Rattle.con_rec.specs.Payload.{payload_from}
use Rattle.con_rec.specs.Record.{updated, ended, new_connection, nothing_waits}
use Rattle.connection.specs.Start.{read_job, start_read}
use Rattle.connection.specs.Tick.{tick_of}
use Rattle.connection.specs.Types.{
  Mode,
  Now,
  Outgoing,
  Reason,
  SdoClientConnection as Connection,
  SdoClientConnectionState as State,
  SdoJob,
  Transfer,
  Waiting,
}

pub new_sound : (node at : ℕ) (room : Bytes) → Consistent (new_connection node at) room
new_sound node at room =
    record {
      send = omega arith;
      last = omega arith;
      waits = tt;
      repeats = tt;
      within = tt;
      held = omega arith;
      loads = refl;
      brings = omega arith;
      ends = refl;
    }

-- only the room's length matters
pub other_room : (c : Connection) (a b : Bytes) → length a ≡ length b → Consistent c a → Consistent c b
other_room c a b e i =
    record {
      send = i.send;
      last = i.last;
      waits = i.waits;
      repeats = i.repeats;
      within = i.within;
      held = omega (arith, i.held, e);
      loads = i.loads;
      brings = omega (arith, i.brings, e);
      ends = i.ends;
    }

-- in any other state than DownloadInProgress
pub not_downloading : (s : State) → is_downloading s ≡ false → (x : Option Transfer) → LoadsIn s x
not_downloading s e (Some t) = tt
not_downloading s e None = e

-- what an answer must leave
abbrev pub TakenSound : Bytes → Result Connection Refusal → Type 0
TakenSound room (Ok d) = Consistent d room
TakenSound room (Err r) = Unit {0}

unfoldable pub Steps : Bytes → Result Step Refusal → Type 0
Steps room (Ok s) = Consistent s.connection room
Steps room (Err r) = Unit {0}

-- ---- the start of a read
pub read_sound : (c : Connection) (t : ℕ) (n : Now) (mode : Mode) (index sub : ℕ) (room : Bytes) (d : Connection)
    → start_read c t n mode index sub ≡ Ok d → Consistent d room
read_sound c t n mode index sub room d e = subst (TakenSound room) e (go (read_view c n room t mode index sub))
  where
    go : {x : Result Connection Refusal} → StartView c n room ⊥ 0 t (read_job mode index sub) x → TakenSound room x
    go (busy i) = tt
    go (short i s) = tt
    go (full i s h) = tt
    go (late i s h k) = tt
    go (begun i s h k) = record {
      send = omega arith;
      last = omega arith;
      waits = tt;
      repeats = tt;
      within = tt;
      held = omega arith;
      loads = refl;
      brings = omega arith;
      ends = refl;
    }

module _ (c : Connection) (room : Bytes) (i : Consistent c room) where
  -- the same numbers, with another state, job, waiting or outcome
  pub with_parts : (s : State) (t : ℕ) (job : SdoJob) (w : Waiting) (x : Option Reason) → WaitsIn s w.last_sent_command
      → WaitsWith job.size w.last_sent_command → LiesIn job.size job.loaded → job.size ≤ length room → LoadsIn s job.loaded
      → job.uploaded ≤ length room → is_ended x ≡ is_closed s
      → Consistent (updated c s t c.send_sequence_number c.last_received_sequence_number job w x) room
  with_parts s t job w x a r b d l u e =
      record { send = i.send; last = i.last; waits = a; repeats = r; within = b; held = d; loads = l; brings = u; ends = e }

  pub ended_sound : (why : Reason) → Consistent (ended c why) room
  ended_sound why =
      with_parts State.Closed c.transaction_id c.job nothing_waits (Some why) tt tt i.within i.held
      (not_downloading State.Closed refl c.job.loaded) i.brings refl

  -- a state that is not Closed: the connection runs
  pub runs : (s : State) → c.state ≡ s → is_closed s ≡ false → is_ended c.outcome ≡ false
  runs s e h = i.ends ∙ ap is_closed e ∙ h

  -- ---- ask
  lies : (t : Transfer) → c.job.loaded ≡ Some t → t.start + t.len ≤ c.job.size
  lies t l = subst (LiesIn c.job.size) l i.within

  -- the state that a command leads to waits for its reply; the command is a part of the loaded transfer
  waits_then : {s : State} {sent : ℕ} {o : Outgoing} → Given c s sent o
      → (s ≡ awaiting o.message) × (is_ended c.outcome ≡ is_closed s) × LoadsIn s c.job.loaded × PartOf c.job.size o.message
  waits_then (opening f e) = (refl, runs State.Opening e refl, not_downloading State.Opening refl c.job.loaded, tt)
  waits_then (first {t} f e l) = (refl, runs State.Established e refl, rw l tt, lies t l)
  waits_then (reading f e l p) = (refl, runs State.Established e refl, not_downloading State.UploadInit refl c.job.loaded, tt)
  waits_then (next f e) = (refl, runs State.UploadInProgress e refl, not_downloading State.UploadInProgress refl c.job.loaded, tt)
  waits_then (later {t} f e l) = (refl, runs State.DownloadInProgress e refl, rw l tt, lies t l)

  pub ask_sound : (n : Now) → Steps room (ask_of c n)
  unfolding Steps
  ask_sound n = go (ask_view c n)
    where
      go : {x : Result Step Refusal} → AskView c n x → Steps room x
      go (silent w) = i
      go (ends f e l p) = ended_sound (finish c.job.cursor.left)
      go (gives g h) =
          record {
            send = omega arith;
            last = i.last;
            waits = (waits_then g).0;
            repeats = (waits_then g).3;
            within = i.within;
            held = i.held;
            loads = (waits_then g).2;
            brings = i.brings;
            ends = (waits_then g).1;
          }
      go (too-late g h) = tt

  -- ---- tick
  pub tick_sound : (n : Now) → Steps room (tick_of c n)
  unfolding Steps
  tick_sound n = go (tick_view c n)
    where
      go : {x : Result Step Refusal} → TickView c n x → Steps room x
      go (never e) = i
      go (early e h) = i
      go (over e h r) = ended_sound Reason.Timeout
      go (again e h r k) =
          with_parts c.state c.transaction_id c.job _ c.outcome i.waits i.repeats i.within i.held i.loads i.brings
          i.ends
      go (too-late e h r k) = tt

  -- ---- what ask or tick gives is as long as its segment size says
  out_sized : (o : Outgoing) → PartOf c.job.size o.message → Sized room (Some o)
  out_sized o = go o.message
    where
      go : (m : Message) → PartOf c.job.size m
          → (length (payload_from room m) ≡ (command_by o.mode m o.transaction).header.segment_size)
          × ((command_by o.mode m o.transaction).header.segment_size ≤ most)
      go Message.Opening p = (refl, omega arith)
      go (Message.Read q) p = (refl, omega arith)
      go Message.Next p = (refl, omega arith)
      go (Message.First t) p = (part_length_lem room t 0 _ (omega (arith, i.held)) (omega arith), omega arith)
      go (Message.Later t sent) p = (part_length_lem room t sent _ (omega (arith, i.held)) (omega arith), omega arith)
      go (Message.Abort code) p = (refl, omega arith)

  pub ask_sized : (n : Now) → AllSized room (ask_of c n)
  ask_sized n = go (ask_view c n)
    where
      go : {x : Result Step Refusal} → AskView c n x → AllSized room x
      go (silent w) = tt
      go (ends f e l p) = tt
      go (gives {o} g h) = out_sized o (waits_then g).3
      go (too-late g h) = tt

  pub tick_sized : (n : Now) → AllSized room (tick_of c n)
  tick_sized n = go (tick_view c n)
    where
      repeat : (x : Option Outgoing) → WaitsWith c.job.size x → Sized room x
      repeat (Some o) p = out_sized o p
      repeat None p = tt

      go : {x : Result Step Refusal} → TickView c n x → AllSized room x
      go (never e) = tt
      go (early e h) = tt
      go (over e h r) = out_sized (abort_command c) tt
      go (again e h r k) = repeat c.waiting.last_sent_command i.repeats
      go (too-late e h r k) = tt
