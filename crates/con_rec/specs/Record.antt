-- The connection's record: a new one, one with some parts changed, and the end that it reports. New: transaction 0, send 0, last received
-- 63 (document 01, "The connection").
use Rattle.std.specs.Prelude.{ℕ, ◌+◌, eqb, Option, Some, None}
use Rattle.con_rec.specs.declared.SdoClientConnection.{SdoClientConnection}
use Rattle.con_rec.specs.declared.End.{End}
use Rattle.con_rec.specs.declared.Reason.{Reason}
use Rattle.laws.specs.Pick.{pick}
use Rattle.con_rec.specs.Types.{
  Mode,
  Reason,
  SdoClientConnection,
  SdoClientConnectionState,
  SdoJob,
  Waiting,
}

-- no command outstanding, no deadline, no retries
abbrev pub nothing_waits : Waiting
nothing_waits = record { last_sent_command = None; deadline = None; retries_left = 0 }

-- no job; nothing asks its mode
abbrev pub no_job : SdoJob
no_job =
    record {
      size = 0;
      cursor = record { at = 0; left = 0 };
      loaded = None;
      offset = 0;
      pending_read = None;
      uploaded = 0;
      delivered = 0;
      mode = Mode.Repository;
    }

abbrev pub new_connection : ℕ → ℕ → SdoClientConnection
new_connection node room =
    record {
      target_node_id = node;
      room = room;
      state = SdoClientConnectionState.Idle;
      transaction_id = 0;
      send_sequence_number = 0;
      last_received_sequence_number = 63;
      job = no_job;
      waiting = nothing_waits;
      outcome = None;
    }

-- the same connection in another state, with other numbers, and so on: what a call changes of it
abbrev pub updated : SdoClientConnection → SdoClientConnectionState → ℕ → ℕ → ℕ → SdoJob → Waiting → Option Reason → SdoClientConnection
updated c state transaction send last job waiting outcome =
    record {
      target_node_id = c.target_node_id;
      room = c.room;
      state = state;
      transaction_id = transaction;
      send_sequence_number = send;
      last_received_sequence_number = last;
      job = job;
      waiting = waiting;
      outcome = outcome;
    }

-- the transaction after this one: 255 goes to 1
abbrev pub next_transaction : ℕ → ℕ
next_transaction t = pick (eqb t 255) 1 (t + 1)

-- ended: Closed, nothing waited for, for a reason
abbrev pub ended : SdoClientConnection → Reason → SdoClientConnection
ended c why =
    updated c SdoClientConnectionState.Closed c.transaction_id c.send_sequence_number
    c.last_received_sequence_number c.job nothing_waits (Some why)

-- Ends are reported: node, reason, delivered.
abbrev pub end_with : SdoClientConnection → Option Reason → Option End
end_with c None = None
end_with c (Some why) =
    Some (record { node = c.target_node_id; reason = why; delivered = c.job.delivered })

abbrev pub end_of : SdoClientConnection → Option End
end_of c = end_with c c.outcome
