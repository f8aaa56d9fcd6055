-- What the start of a job comes to, as one of five cases; and of a job that begins: the connection keeps its node and its room, it runs, and the room
-- with the job's bytes is as long as it was.
use Rattle.std.specs.Prelude.{Some, Result, Ok, Err}
use Prim.Native.Nat.{ℕ, ◌≤◌}
use native.Mathlib.Omega.{arith}
use mathlib.Core.Path.{◌≡◌, refl, subst}
use mathlib.Core.Bool.{true}
use lib.ListN.{length}
use Rattle.codec.specs.Bytes.{Bytes}
use Rattle.codec.specs.Dcf.{dcf_step}
use Rattle.codec.proofs.WrittenBytes.{placed_length}
use Rattle.connection.proofs.DueView.{due_at}
use Rattle.connection.proofs.StartView.{StartView, begun, busy, dcf_view, full, late, read_view, short, write_view}
use Rattle.connection.specs.Start.{capacity, dcf_job, dcf_transaction, first_cursor, is_idle, read_job, started_at, write_job}
use Rattle.manager.specs.Calls.{Job, job_room, loads, reads, start_job, writes}
use Rattle.theorems.specs.Causes.{Short, job_bytes}
use Rattle.theorems.specs.InPlace.{Runs}
use Rattle.theorems.specs.Types.{Now, Refusal, SdoClientConnection as Connection, SdoJob}
use Rattle.theorems.proofs.NodeAndRoom.{TakenSame, Same}

-- the job that begins, and its transaction number
abbrev pub begun_job : Job → SdoJob
begun_job (writes mode index sub bytes) = write_job mode index sub bytes
begun_job (reads mode index sub) = read_job mode index sub
begun_job (loads mode dcf) = dcf_job mode (dcf_step dcf (first_cursor dcf)) (length dcf) (first_cursor dcf)

abbrev begun_number : Job → ℕ → ℕ
begun_number (writes mode index sub bytes) t = t
begun_number (reads mode index sub) t = t
begun_number (loads mode dcf) t = dcf_transaction (dcf_step dcf (first_cursor dcf)) t

abbrev pub JobView : Job → Connection → ℕ → Now → Bytes → Result Connection Refusal → Type 0
JobView job c t n room = StartView c n room (Short job) (job_bytes job) (begun_number job t) (begun_job job)

pub job_view : (job : Job) (c : Connection) (t : ℕ) (n : Now) (room : Bytes) → JobView job c t n room (start_job job c t n room)
job_view (writes mode index sub bytes) c t n room = write_view c n room t mode index sub bytes
job_view (reads mode index sub) c t n room = read_view c n room t mode index sub
job_view (loads mode dcf) c t n room = dcf_view c n room t mode dcf

fits : (job : Job) (room : Bytes) → job_bytes job ≤ capacity room → length (job_room job room) ≡ length room
fits (writes mode index sub bytes) room h = placed_length room 0 bytes (omega arith)
fits (reads mode index sub) room h = refl
fits (loads mode dcf) room h = placed_length room 0 dcf (omega arith)

module _ (job : Job) (c d : Connection) (t : ℕ) (n : Now) (room : Bytes) (e : start_job job c t n room ≡ Ok d) where
  abbrev Began : Result Connection Refusal → Type 0
  Began (Ok x) =
      (is_idle c.state ≡ true)
      × (job_bytes job ≤ capacity room)
      × (started_at (Some (due_at n)) c (begun_number job t) n (begun_job job) ≡ Ok x)
  Began (Err r) = Unit {0}

  pub began : Began (Ok d)
  began = subst Began e (go (job_view job c t n room))
    where
      go : {x : Result Connection Refusal} → JobView job c t n room x → Began x
      go (busy i) = tt
      go (short i s) = tt
      go (full i s h) = tt
      go (late i s h k) = tt
      go (begun i s h k) = (i, h, refl)

  pub started_same : Same c d
  started_same = subst (TakenSame c) began.2 (refl, refl)

  pub started_runs : Runs d
  started_runs = subst RunsIf began.2 refl
    where
      RunsIf : Result Connection Refusal → Type 0
      RunsIf (Ok x) = Runs x
      RunsIf (Err r) = Unit {0}

  pub started_room : length (job_room job room) ≡ length room
  started_room = fits job room began.1
