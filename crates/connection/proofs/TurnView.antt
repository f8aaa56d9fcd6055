-- What ask and tick come to, as one of a few cases, each with what decides it. A law about them is shown by going through the cases.
use Rattle.std.specs.Prelude.{Option, Some, None, Result, Err}
use Rattle.codec.specs.declared.refusal.Refusal.{Refusal}
use Rattle.codec.specs.declared.request.ReadByIndexRequest.{ReadByIndexRequest}
use Rattle.codec.specs.declared.dcf.Transfer.{Transfer}
use Rattle.con_rec.specs.declared.Outgoing.{Outgoing}
use Rattle.con_rec.specs.declared.Step.{Step}
use Prim.Native.Nat.{ℕ, ◌+◌, ◌-◌, ◌≤◌, ◌<◌}
use mathlib.Core.Path.{◌≡◌, refl}
use lib.Dec.{eqb, ltb}
use borrow.Author.Tests.{eqb-false, eqb-true, ltb-false, ltb-true}
use Rattle.laws.proofs.Choices.{decided}
use Rattle.con_rec.specs.Commands.{first_command, later_command, next_command, opening_command, read_command}
use Rattle.con_rec.specs.Deadline.{latest}
use Rattle.con_rec.specs.Parts.{part_length, total}
use Rattle.con_rec.specs.Record.{ended}
use Rattle.connection.specs.Ask.{ask_first, ask_free, ask_in, ask_later, ask_of, ask_read, finish, given, given_at, quiet}
use Rattle.connection.specs.Tick.{retried_at, tick_at, tick_of, timed_out}
use Rattle.connection.specs.Types.{
  Now,
  Outgoing,
  Refusal,
  SdoClientConnection as Connection,
  SdoClientConnectionState as State,
  Transfer,
}
use Rattle.connection.proofs.DueView.{due_at, timed}

-- ---- ask

abbrev pub Free : Connection → Type 0
Free c = c.waiting.last_sent_command ≡ None

-- why nothing is given
pub data Silent (c : Connection) : Type 0 where
  waits : {o : Outgoing} → c.waiting.last_sent_command ≡ Some o → Silent c
  idle : Free c → c.state ≡ State.Idle → Silent c
  reads : Free c → c.state ≡ State.UploadInit → Silent c
  closed : Free c → c.state ≡ State.Closed → Silent c
  unloaded : Free c → c.state ≡ State.DownloadInProgress → c.job.loaded ≡ None → Silent c

-- which command is given, in the state that it leads to, with how much of the transfer sent
pub data Given (c : Connection) : State → ℕ → Outgoing → Type 0 where
  opening : Free c → c.state ≡ State.Opening → Given c State.Opening c.job.offset (opening_command c)
  first : {t : Transfer} → Free c → c.state ≡ State.Established → c.job.loaded ≡ Some t
      → Given c State.DownloadInProgress (part_length (total t)) (first_command c t)
  reading : {q : ReadByIndexRequest} → Free c → c.state ≡ State.Established → c.job.loaded ≡ None
      → c.job.pending_read ≡ Some q → Given c State.UploadInit c.job.offset (read_command c q)
  next : Free c → c.state ≡ State.UploadInProgress → Given c State.UploadInProgress c.job.offset (next_command c)
  later : {t : Transfer} → Free c → c.state ≡ State.DownloadInProgress → c.job.loaded ≡ Some t
      → Given c State.DownloadInProgress (c.job.offset + part_length (total t - c.job.offset)) (later_command c t c.job.offset)

-- nothing; the end of the job; a command, whose deadline fits, or not
pub data AskView (c : Connection) (n : Now) : Result Step Refusal → Type 0 where
  silent : Silent c → AskView c n (quiet c)
  ends : Free c → c.state ≡ State.Established → c.job.loaded ≡ None → c.job.pending_read ≡ None
      → AskView c n (quiet (ended c (finish c.job.cursor.left)))
  gives : {s : State} {sent : ℕ} {o : Outgoing} → Given c s sent o → due_at n ≤ latest
      → AskView c n (given_at (Some (due_at n)) c n s sent o)
  late : {s : State} {sent : ℕ} {o : Outgoing} → Given c s sent o → latest < due_at n → AskView c n (Err Refusal.DeadlineRange)

module _ (c : Connection) (n : Now) where
  given_view : {s : State} {sent : ℕ} {o : Outgoing} → Given c s sent o → AskView c n (given c n s sent o)
  unfolding given
  given_view {s} {sent} {o} g = timed n (λ m. given_at m c n s sent o) (AskView c n) (gives g) (late g)

  module _ (free : Free c) where
    read_view : c.state ≡ State.Established → c.job.loaded ≡ None → (x : Option ReadByIndexRequest) → c.job.pending_read ≡ x
        → AskView c n (ask_read x c n)
    read_view s u (Some q) e = given_view (reading free s u e)
    read_view s u None e = ends free s u e

    first_view : c.state ≡ State.Established → (x : Option Transfer) → c.job.loaded ≡ x → AskView c n (ask_first x c n)
    first_view s (Some t) e = given_view (first free s e)
    first_view s None e = read_view s e c.job.pending_read refl

    later_view : c.state ≡ State.DownloadInProgress → (x : Option Transfer) → c.job.loaded ≡ x → AskView c n (ask_later x c n)
    later_view s (Some t) e = given_view (later free s e)
    later_view s None e = silent (unloaded free s e)

    state_view : (x : State) → c.state ≡ x → AskView c n (ask_in x c n)
    state_view State.Idle e = silent (idle free e)
    state_view State.Opening e = given_view (opening free e)
    state_view State.Established e = first_view e c.job.loaded refl
    state_view State.UploadInit e = silent (reads free e)
    state_view State.UploadInProgress e = given_view (next free e)
    state_view State.DownloadInProgress e = later_view e c.job.loaded refl
    state_view State.Closed e = silent (closed free e)

  pub ask_view : AskView c n (ask_of c n)
  unfolding ask_of
  ask_view = go c.waiting.last_sent_command refl
    where
      go : (x : Option Outgoing) → c.waiting.last_sent_command ≡ x → AskView c n (ask_free x c n)
      go (Some o) e = silent (waits e)
      go None e = state_view e c.state refl

-- ---- tick: no deadline; one that has not come; none left of the retries; one fewer, with a new deadline that fits, or not

pub data TickView (c : Connection) (n : Now) : Result Step Refusal → Type 0 where
  never : c.waiting.deadline ≡ None → TickView c n (quiet c)
  early : {d : ℕ} → c.waiting.deadline ≡ Some d → n.time < d → TickView c n (quiet c)
  over : {d : ℕ} → c.waiting.deadline ≡ Some d → d ≤ n.time → c.waiting.retries_left ≡ 0 → TickView c n (timed_out c)
  again : {d : ℕ} → c.waiting.deadline ≡ Some d → d ≤ n.time → (c.waiting.retries_left ≡ 0 → ⊥) → due_at n ≤ latest
      → TickView c n (retried_at (Some (due_at n)) c)
  late : {d : ℕ} → c.waiting.deadline ≡ Some d → d ≤ n.time → (c.waiting.retries_left ≡ 0 → ⊥) → latest < due_at n
      → TickView c n (Err Refusal.DeadlineRange)

pub tick_view : (c : Connection) (n : Now) → TickView c n (tick_of c n)
unfolding tick_of
tick_view c n = go c.waiting.deadline refl
  where
    go : (x : Option ℕ) → c.waiting.deadline ≡ x → TickView c n (tick_at x c n)
    go None e = never e
    go (Some d) e =
        decided (TickView c n) (ltb n.time d) _ _ (λ h. early e (ltb-true _ _ h))
        (λ h. decided (TickView c n) (eqb c.waiting.retries_left 0) _ _ (λ k. over e (ltb-false _ _ h) (eqb-true _ _ k))
        (λ k.
        timed n (λ m. retried_at m c) (TickView c n) (again e (ltb-false _ _ h) (eqb-false _ _ k))
        (late e (ltb-false _ _ h) (eqb-false _ _ k))))
