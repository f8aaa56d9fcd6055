-- Each refusal that a record gets from the replay itself, given exactly when, in the order of the checks: 11, 10 and 7 as document 01's column says
-- ("Numbers that refuse"), and 1 for a gather buffer that is too short. What the manager refuses is refused by the call that a record asks for.
use Rattle.std.specs.Prelude.{ℕ, ◌+◌, ◌≤◌, ◌<◌, ◌≡◌, List, [], ◌∷◌, ◌++◌, length, get_or, Err}
use Rattle.laws.specs.Checks.{Check, Exactly, check}
use Rattle.codec.specs.Bytes.{Bytes}
use Rattle.replay_record.specs.Gather.{already_gathered, gather_size, gathered_with, most_gathered}
use Rattle.replay_record.specs.Record.{record_read}
use Rattle.replay_record.specs.Request.{Request, answers, record_asks}
use Rattle.replay_record.specs.Types.{Answer, Choices, Refusal}

-- a record's operation (byte 0) and its length (byte 5)
abbrev pub operation_in : Bytes → ℕ
operation_in b = get_or b 0 0

abbrev pub length_in : Bytes → ℕ
length_in b = get_or b 5 0

-- 11: input ends inside a record; b is what is left of the input, and the replay reads no record where nothing is left. 10: operation not 1 to 7, or
-- length over 16.
abbrev pub record_checks : Bytes → List (Check Refusal)
record_checks b =
    check Refusal.ShortRecord (length b < 32)
    ∷ check Refusal.BadRecord (((1 ≤ operation_in b) × (operation_in b ≤ 7)) → ⊥)
    ∷ check Refusal.BadRecord (16 < length_in b)
    ∷ []

-- 7: the replay's gather past 4,096
abbrev pub gather_checks : ℕ → ℕ → List (Check Refusal)
gather_checks already more = check Refusal.NoRoom (most_gathered < already + more) ∷ []

-- a record: 1 where the lent gather buffer is under 4,112 bytes, then the record's own, then 7 of a gather
abbrev pub ask_checks : ℕ → Bytes → Bytes → List (Check Refusal)
ask_checks gathered b gather =
    check Refusal.BufferTooShort (length gather < gather_size)
    ∷ (record_checks b
    ++ (check Refusal.NoRoom ((operation_in b ≡ 7) × (most_gathered < already_gathered gathered + length_in b)) ∷ []))

-- what a record asks for where the replay refuses it
abbrev pub refused_by : Refusal → Request
refused_by r = answers (Answer.Refused r)

pub record ReplayRefuses : Type 0 where
  pub record_read_lem : (b : Bytes) → Exactly Err (record_checks b) (record_read b)
  pub gather_more : (already more : ℕ) → Exactly Answer.Refused (gather_checks already more) (gathered_with already more).answer
  pub record_asks_lem : (gathered : ℕ) (b : Bytes) (choices : Choices) (gather : Bytes)
      → Exactly refused_by (ask_checks gathered b gather) (record_asks gathered b choices gather).request
