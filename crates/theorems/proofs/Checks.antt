-- The manager's answers by their checks: the law of all answers, said of these; and what a job's start answers.
use Rattle.std.specs.Prelude.{Result, Ok, Err}
use Prim.Native.Nat.{ℕ}
use native.Mathlib.Omega.{arith}
use mathlib.Core.Path.{◌≡◌, refl}
use mathlib.Core.Bool.{true, false}
use mathlib.Core.List.{List, ◌∷◌}
use mathlib.Core.Logic.{inl, inr}
use lib.ListN.{length}
use Rattle.laws.proofs.Checks.{Answers as AnswersBy, Otherwise, exactly as exactly-by}
use Rattle.laws.specs.Checks.{Check, Exactly, check}
use Rattle.codec.specs.Bytes.{Bytes}
use Rattle.connection.proofs.StartView.{begun, busy, full, late, short}
use Rattle.connection.specs.Start.{is_idle}
use Rattle.manager.specs.Calls.{Job, start_job}
use Rattle.man_table.specs.Table.{room_size}
use Rattle.theorems.specs.Causes.{job_checks}
use Rattle.theorems.specs.Types.{Answer, Now, Refusal, SdoClientConnection as Connection}
use Rattle.theorems.proofs.JobStarts.{JobView, job_view}

-- an answer that refuses nothing
abbrev pub Unrefused : Answer → Type 0
Unrefused = Otherwise Answer.Refused

abbrev pub Answers : List (Check Refusal) → Answer → Type 0
Answers = AnswersBy Answer.Refused Unrefused

pub exactly : (l : List (Check Refusal)) (x : Answer) → Answers l x → Exactly Answer.Refused l x
exactly = exactly-by Answer.Refused Unrefused (λ r u. u r refl) (λ r s e. cc)

-- ---- a job's start
abbrev pub answer_of : Result Connection Refusal → Answer
answer_of (Ok d) = Answer.Nothing
answer_of (Err r) = Answer.Refused r

-- by the state of the connection: Busy, or the job's own checks
pub start_checks_lem : (Busy : Type 0) (job : Job) (c : Connection) (t : ℕ) (n : Now) (room : Bytes) → length room ≡ room_size
    → (is_idle c.state ≡ false → Busy) → (is_idle c.state ≡ true → Busy → ⊥)
    → Answers (check Refusal.Busy Busy ∷ job_checks job n) (answer_of (start_job job c t n room))
start_checks_lem Busy job c t n room size is-busy is_free = go (job_view job c t n room)
  where
    go : {x : Result Connection Refusal} → JobView job c t n room x → Answers (check Refusal.Busy Busy ∷ job_checks job n) (answer_of x)
    go (busy i) = inl (is-busy i, refl)
    go (short i s) = inr (is_free i, inl (s, refl))
    go (full i s h) = inr (is_free i, inr (s, inl (omega (arith, size), refl)))
    go (late i s h k) = inr (is_free i, inr (s, inr (λ z. omega (arith, size), inl (k, refl))))
    go (begun i s h k) = inr (is_free i, inr (s, inr (λ z. omega (arith, size), inr (λ z. omega arith, λ r e. cc))))
