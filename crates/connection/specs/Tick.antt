-- Tick (document 01, "The connection"): nothing without a deadline or before it. Retries left: one fewer, new deadline, the outstanding
-- command repeated, or nothing if none was sent yet. None left: the abort command, 0x05040000, ended Timeout.
use Rattle.std.specs.Prelude.{ℕ, ◌-◌, ltb, eqb, Option, Some, None, Result, Ok, Err}
use Rattle.codec.specs.declared.refusal.Refusal.{Refusal}
use Rattle.con_rec.specs.declared.SdoClientConnection.{SdoClientConnection}
use Rattle.con_rec.specs.declared.Reason.{Reason}
use Rattle.con_rec.specs.declared.Step.{Step}
use Rattle.laws.specs.Pick.{pick}
use Rattle.connection.specs.Ask.{quiet}
use Rattle.con_rec.specs.Commands.{abort_command}
use Rattle.con_rec.specs.Deadline.{deadline_of}
use Rattle.con_rec.specs.Record.{updated, ended}
use Rattle.connection.specs.Types.{
  Now,
  Reason,
  Refusal,
  SdoClientConnection,
  Waiting,
}

-- one retry fewer, and a new deadline
abbrev pub one_fewer : Waiting → ℕ → Waiting
one_fewer w deadline =
    record {
      last_sent_command = w.last_sent_command;
      deadline = Some deadline;
      retries_left = w.retries_left - 1;
    }

abbrev pub retried_at : Option ℕ → SdoClientConnection → Result Step Refusal
retried_at None c = Err Refusal.DeadlineRange
retried_at (Some deadline) c =
    Ok
    (record {
      connection =
          updated c c.state c.transaction_id c.send_sequence_number c.last_received_sequence_number
          c.job (one_fewer c.waiting deadline) c.outcome;
      sends = c.waiting.last_sent_command;
    })

abbrev pub timed_out : SdoClientConnection → Result Step Refusal
timed_out c = Ok (record { connection = ended c Reason.Timeout; sends = Some (abort_command c) })

abbrev pub tick_at : Option ℕ → SdoClientConnection → Now → Result Step Refusal
tick_at None c n = quiet c
tick_at (Some d) c n =
    pick (ltb n.time d) (quiet c) (
    pick (eqb c.waiting.retries_left 0) (timed_out c)
    (retried_at (deadline_of n.time n.timeout) c))

unfoldable pub tick_of : SdoClientConnection → Now → Result Step Refusal
tick_of c n = tick_at c.waiting.deadline c n
