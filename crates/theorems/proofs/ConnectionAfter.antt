-- The connection that an ask or a tick leaves where it gives a command, for the proofs that have to name it.
use Prim.Native.Nat.{ℕ, ◌+◌, ◌%◌}
use Rattle.con_rec.specs.Deadline.{retries_of}
use Rattle.con_rec.specs.Record.{updated}
use Rattle.connection.specs.Ask.{waiting_for, with_offset}
use Rattle.connection.specs.Tick.{one_fewer}
use Rattle.connection.proofs.DueView.{due_at}
use Rattle.theorems.specs.Types.{Now, Outgoing, SdoClientConnection as Connection, SdoClientConnectionState as State}

abbrev pub after_giving : Connection → Now → State → ℕ → Outgoing → Connection
after_giving c n s sent o =
    updated c s c.transaction_id ((c.send_sequence_number + 1) % 64) c.last_received_sequence_number (with_offset c.job sent)
    (waiting_for o (due_at n) (retries_of n.retries)) c.outcome

abbrev pub after_repeating : Connection → Now → Connection
after_repeating c n =
    updated c c.state c.transaction_id c.send_sequence_number c.last_received_sequence_number c.job (one_fewer c.waiting (due_at n)) c.outcome
