-- What a start comes to, as one of five cases, each with what decides it. A law about starts is shown by going through them.
use Rattle.std.specs.Prelude.{Some, Result, Err}
use Prim.Native.Nat.{ℕ, ◌+◌, ◌≤◌, ◌<◌}
use native.Mathlib.Omega.{arith}
use mathlib.Core.Path.{◌≡◌}
use mathlib.Core.Bool.{true, false}
use lib.Dec.{leb, ltb}
use lib.ListN.{length}
use borrow.Author.Tests.{leb-false, leb-true, ltb-false, ltb-true}
use Rattle.laws.proofs.Choices.{decided}
use Rattle.codec.specs.Bytes.{Bytes}
use Rattle.codec.specs.Dcf.{dcf_step}
use Rattle.con_rec.specs.Deadline.{latest}
use Rattle.connection.proofs.DueView.{due_at, timed}
use Rattle.connection.specs.Start.{capacity, dcf_job, dcf_transaction, first_cursor, is_idle, read_job, start_dcf, start_read, start_write, started, started_at, write_job}
use Rattle.connection.specs.Types.{Mode, Now, Refusal, SdoClientConnection as Connection, SdoJob}

-- ---- start: Busy, too short, no room for so many bytes, no deadline; or a job begins
pub data StartView (c : Connection) (n : Now) (room : Bytes) (Short : Type 0) (size t : ℕ) (job : SdoJob) : Result Connection Refusal → Type 0 where
  busy : is_idle c.state ≡ false → StartView c n room Short size t job (Err Refusal.Busy)
  short : is_idle c.state ≡ true → Short → StartView c n room Short size t job (Err Refusal.DcfTooShort)
  full : is_idle c.state ≡ true → (Short → ⊥) → capacity room < size → StartView c n room Short size t job (Err Refusal.NoRoom)
  late : is_idle c.state ≡ true → (Short → ⊥) → size ≤ capacity room → latest < due_at n
      → StartView c n room Short size t job (Err Refusal.DeadlineRange)
  begun : is_idle c.state ≡ true → (Short → ⊥) → size ≤ capacity room → due_at n ≤ latest
      → StartView c n room Short size t job (started_at (Some (due_at n)) c t n job)

module _ (c : Connection) (n : Now) (room : Bytes) where
  begins : (Short : Type 0) (size t : ℕ) (job : SdoJob) → is_idle c.state ≡ true → (Short → ⊥) → size ≤ capacity room
      → StartView c n room Short size t job (started c t n job)
  unfolding started
  begins Short size t job i s h =
      timed n (λ m. started_at m c t n job) (StartView c n room Short size t job) (begun i s h) (late i s h)

  pub write_view : (t : ℕ) (mode : Mode) (index sub : ℕ) (bytes : Bytes)
      → StartView c n room ⊥ (4 + length bytes) t (write_job mode index sub bytes) (start_write c t n mode index sub bytes room)
  unfolding start_write
  write_view t mode index sub bytes =
      decided P (is_idle c.state) _ _
      (λ i. decided P (leb (4 + length bytes) (capacity room)) _ _
      (λ h. begins ⊥ (4 + length bytes) t (write_job mode index sub bytes) i (λ z. z) (leb-true _ _ h)) (λ h. full i (λ z. z) (leb-false _ _ h)))
      busy
    where
      P : Result Connection Refusal → Type 0
      P = StartView c n room ⊥ (4 + length bytes) t (write_job mode index sub bytes)

  pub read_view : (t : ℕ) (mode : Mode) (index sub : ℕ) → StartView c n room ⊥ 0 t (read_job mode index sub) (start_read c t n mode index sub)
  unfolding start_read
  read_view t mode index sub =
      decided (StartView c n room ⊥ 0 t (read_job mode index sub)) (is_idle c.state) _ _
      (λ i. begins ⊥ 0 t (read_job mode index sub) i (λ z. z) (omega arith)) busy

  pub dcf_view : (t : ℕ) (mode : Mode) (dcf : Bytes)
      → StartView c n room (length dcf < 4) (length dcf) (dcf_transaction (dcf_step dcf (first_cursor dcf)) t)
      (dcf_job mode (dcf_step dcf (first_cursor dcf)) (length dcf) (first_cursor dcf)) (start_dcf c t n mode dcf room)
  unfolding start_dcf
  dcf_view t mode dcf =
      decided P (is_idle c.state) _ _
      (λ i. decided P (ltb (length dcf) 4) _ _ (λ s. short i (ltb-true _ _ s))
      (λ s. decided P (leb (length dcf) (capacity room)) _ _
      (λ h. begins (length dcf < 4) (length dcf) _ _ i (long (ltb-false _ _ s)) (leb-true _ _ h))
      (λ h. full i (long (ltb-false _ _ s)) (leb-false _ _ h))))
      busy
    where
      P : Result Connection Refusal → Type 0
      P =
          StartView c n room (length dcf < 4) (length dcf) (dcf_transaction (dcf_step dcf (first_cursor dcf)) t)
          (dcf_job mode (dcf_step dcf (first_cursor dcf)) (length dcf) (first_cursor dcf))

      long : 4 ≤ length dcf → length dcf < 4 → ⊥
      long h z = omega arith
