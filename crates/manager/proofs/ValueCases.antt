-- What a reply answers: a value, or nothing. To show something of it, it is enough to show it of both. That the part that it names is the beginning of its
-- connection's room is man_value's `value_room`.
use Rattle.std.specs.Prelude.{Option, Some, None}
use Rattle.codec.specs.declared.request.ReadByIndexRequest.{ReadByIndexRequest}
use Rattle.con_rec.specs.declared.Reason.{Reason}
use Prim.Native.Nat.{ℕ}
use native.Mathlib.Omega.{arith}
use mathlib.Core.Path.{◌≡◌}
use Rattle.laws.proofs.Choices.{either}
use Rattle.man_value.specs.Value.{is_complete, uploaded_part}
use Rattle.manager.specs.Types.{Answer, SdoClientConnection, StorePart}
use Rattle.manager.specs.Value.{value_by, value_for, value_of}

module _ (P : Answer → Type 0) (none : P Answer.Nothing) (value : (part : StorePart) → P (Answer.Value part)) (c : SdoClientConnection) where
  by_read : (x : Option ReadByIndexRequest) → P (value_for x c)
  by_read (Some q) = value _
  by_read None = none

  by_outcome : (x : Option Reason) → P (value_by x c)
  by_outcome None = none
  by_outcome (Some why) = either P (is_complete why) _ _ (by_read c.job.pending_read) none

  pub value_by_lem : P (value_of c)
  value_by_lem = by_outcome c.outcome

-- a value is the connection's own part
pub value_as : (c : SdoClientConnection) (part : StorePart) → value_of c ≡ Answer.Value part → uploaded_part c ≡ part
value_as c part = by_outcome_of c.outcome
  where
    none : Answer.Nothing ≡ Answer.Value part → uploaded_part c ≡ part
    none e = let z : ◌≡◌ {A = ℕ} 0 1 = cc e in absurd (omega arith)

    by_read_of : (x : Option ReadByIndexRequest) → value_for x c ≡ Answer.Value part → uploaded_part c ≡ part
    by_read_of (Some q) = λ e. cc e
    by_read_of None = none

    by_outcome_of : (x : Option Reason) → value_by x c ≡ Answer.Value part → uploaded_part c ≡ part
    by_outcome_of None = none
    by_outcome_of (Some why) =
        either (λ (a : Answer). a ≡ Answer.Value part → uploaded_part c ≡ part) (is_complete why) _ _ (by_read_of c.job.pending_read) none
