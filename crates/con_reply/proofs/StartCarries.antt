-- A start of a write or a DCF that is taken, of any connection and with any room, begins what is carried: nothing was sent yet, and the
-- first entry is loaded if one is readable. The connection is consistent with the room that has the job's bytes.
use Rattle.std.specs.Prelude.{Option, Some, None, Result, Ok, Err}
use Rattle.codec.specs.declared.refusal.Refusal.{Refusal}
use Rattle.codec.specs.declared.dcf.Transfer.{Transfer}
use Prim.Native.Nat.{ℕ, zero, suc, ◌+◌, ◌-◌, ◌≤◌}
use native.Mathlib.Omega.{arith}
use mathlib.Core.Path.{◌≡◌, refl, ap, subst}
use mathlib.Core.List.{List, [], ◌++◌}
use lib.Dec.{leb}
use lib.ListN.{length, take, drop, length-take}
use lib.Seq.{take-append_seam, take-length}
use borrow.Author.Tests.{leb-true}
use Rattle.codec.specs.Bytes.{Bytes, placed}
use Rattle.codec.specs.Dcf.{count_of, behind, entries_from, dcf_step}
use Rattle.codec.proofs.Entries.{Stepped as Found, stepped}
use Rattle.connection.proofs.DueView.{due_at}
use Rattle.connection.proofs.StartView.{StartView, begun, busy, dcf_view, full, late, short, write_view}
use Rattle.con_reply.specs.Consistent.{Consistent, LiesIn}
use Rattle.con_reply.specs.Jobs.{Job, writes, loads, bytes_of, entries_of, counted, start_of}
use Rattle.connection.specs.Start.{capacity, dcf_job, first_cursor, job_with, started_at}
use Rattle.connection.specs.Types.{
  DcfCursor,
  DcfStep,
  Mode,
  Now,
  SdoClientConnection as Connection,
  SdoClientConnectionState as State,
  SdoJob,
}
use Rattle.con_reply.proofs.JobCarried.{Aim, Carried, Carries, NoMore, loaded, rest}
use Rattle.con_reply.proofs.StepSound.{not_downloading}
use Rattle.laws.proofs.Choices.{decided, either}

-- an entry takes bytes, so that there are no more entries than bytes
few : (k : ℕ) (b : Bytes) (at : ℕ) → length (entries_from k b at) ≤ length b - at
few zero b at = omega arith
few (suc k) b at =
    let later = few k b (behind b at) in
    either Few (leb (at + 7) (length b)) _ []
    (decided Few (leb (behind b at) (length b)) _ [] (λ h. omega (arith, leb-true (behind b at) (length b) h, later)) (λ h. omega arith))
    (omega arith)
  where
    Few : List Bytes → Type 0
    Few l = length l ≤ length b - at

-- what a start puts at the start of the room is there
placed_first : (room b : Bytes) → take (length b) (placed room 0 b) ≡ b
unfolding placed
placed_first room b = take-append_seam b (drop (0 + length b) room)

abbrev pub aim_of : Job → Bytes → Aim
aim_of job room =
    record {
      room = placed room 0 (bytes_of job);
      job = bytes_of job;
      entries = entries_of job;
      count = counted job;
    }

-- what is begun
pub record Begun (a : Aim) (d : Connection) : Type 0 where
  pub carries : Carries a [] d
  pub runs : d.outcome ≡ None
  pub consistent : Consistent d a.room

abbrev Begins : Aim → Result Connection Refusal → Type 0
Begins a (Ok d) = Begun a d
Begins a (Err r) = Unit {0}

-- a job of which nothing was sent, by what is loaded and where it goes on
module _ (job : Job) (room : Bytes) (x : Option Transfer) (k : DcfCursor) (known : entries_of job ≡ loaded (bytes_of job) x ++ rest (bytes_of job) k)
    (count : counted job ≡ length (loaded (bytes_of job) x) + k.left) (none : NoMore (bytes_of job) x k)
    (within : LiesIn (length (bytes_of job)) x) (fewer : length (entries_of job) ≤ 4294967295) where
  carried : Carried (aim_of job room) [] State.Opening x 0 k 0 None (length (bytes_of job))
  carried =
      record {
        before = [];
        joined = refl;
        known = known;
        counted = omega arith;
        figure = refl;
        none = none;
        sending = tt;
        within = within;
        few = fewer;
        writes = refl;
        holds = placed_first room (bytes_of job);
      }

  begins : (c : Connection) (t : ℕ) (n : Now) (due : ℕ)
      → (mode : Mode) → Begins (aim_of job room) (started_at (Some due) c t n (job_with mode (length (bytes_of job)) k x None))
  begins c t n due mode =
      record {
        carries = carried;
        runs = refl;
        consistent =
            record {
              send = omega arith;
              last = omega arith;
              waits = tt;
              repeats = tt;
              within = within;
              held = held;
              loads = not_downloading State.Opening refl x;
              brings = omega arith;
              ends = refl;
            };
      }
    where
      held : length (bytes_of job) ≤ length (placed room 0 (bytes_of job))
      held = omega (arith, rw length-take at (ap length (placed_first room (bytes_of job))))

dcf_begins : (mode : Mode) (dcf room : Bytes) → length dcf ≤ capacity room → (c : Connection) (t : ℕ) (n : Now) (due : ℕ) (s : DcfStep)
    → Found dcf 4 (count_of dcf) s → Begins (aim_of (loads mode dcf) room) (started_at (Some due) c t n (dcf_job mode s (length dcf) (first_cursor dcf)))
dcf_begins mode dcf room h c t n due (DcfStep.Entry entry next) st =
    begins (loads mode dcf) room (Some _) next st.0 (omega (arith, st.1)) tt st.2
    (omega (arith, few (count_of dcf) dcf 4)) c t n due mode
dcf_begins mode dcf room h c t n due DcfStep.End st =
    begins (loads mode dcf) room None (first_cursor dcf) refl (omega arith) st.0 tt
    (omega (arith, few (count_of dcf) dcf 4)) c t n due mode
dcf_begins mode dcf room h c t n due DcfStep.Unreadable st =
    begins (loads mode dcf) room None (first_cursor dcf) refl (omega arith) st.0 tt
    (omega (arith, few (count_of dcf) dcf 4)) c t n due mode

-- a start that is taken, by what it begins
taken : {c : Connection} {n : Now} {room : Bytes} {Short : Type 0} {size t : ℕ} {j : SdoJob} (a : Aim) {x : Result Connection Refusal}
    → (size ≤ capacity room → Begins a (started_at (Some (due_at n)) c t n j)) → StartView c n room Short size t j x → Begins a x
taken a f (busy i) = tt
taken a f (short i s) = tt
taken a f (full i s h) = tt
taken a f (late i s h k) = tt
taken a f (begun i s h k) = f h

start_begins : (c : Connection) (t : ℕ) (n : Now) (job : Job) (room : Bytes) → Begins (aim_of job room) (start_of c t n job room)
start_begins c t n (writes mode index sub bytes) room =
    taken (aim_of (writes mode index sub bytes) room)
    (λ h.
    begins (writes mode index sub bytes) room (Some _) _ (rw (take-length bytes)) refl tt (omega arith) (omega arith) c t n _ mode)
    (write_view c n room t mode index sub bytes)
start_begins c t n (loads mode dcf) room =
    taken (aim_of (loads mode dcf) room)
    (λ h. dcf_begins mode dcf room h c _ n _ (dcf_step dcf (first_cursor dcf)) (stepped dcf (first_cursor dcf)))
    (dcf_view c n room t mode dcf)

pub begun_job_lem : (c : Connection) (t : ℕ) (n : Now) (job : Job) (room : Bytes) (d : Connection)
    → start_of c t n job room ≡ Ok d → Begun (aim_of job room) d
begun_job_lem c t n job room d e = subst (Begins (aim_of job room)) e (start_begins c t n job room)
