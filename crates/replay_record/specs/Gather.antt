-- Gather (document 01, "Replay"): it collects up to 4,096 bytes for the record that uses them, and gets 7 past that. The manager has no
-- part in it.
use Rattle.std.specs.Prelude.{ℕ, ◌+◌, min, ltb, length}
use Rattle.laws.specs.Pick.{pick}
use Rattle.codec.specs.Bytes.{Bytes, placed}
use Rattle.replay_record.specs.Types.{Answer, Gathered, Refusal}

-- the most bytes that gather collects; the buffer for these and a record's own 16; and how many are gathered, whatever the number says
abbrev pub most_gathered : ℕ
most_gathered = 4096

abbrev pub gather_size : ℕ
gather_size = 4112

abbrev pub already_gathered : ℕ → ℕ
already_gathered gathered = min gathered most_gathered

-- so many bytes more: the answer and how many are gathered after it, and the buffer
unfoldable pub gathered_with : ℕ → ℕ → Gathered
gathered_with already more =
    pick (ltb most_gathered (already + more))
    (record { answer = Answer.Refused Refusal.NoRoom; gathered = already })
    (record { answer = Answer.Nothing; gathered = already + more })

unfoldable pub more_gathered : Bytes → ℕ → Bytes → Bytes
more_gathered gather already own = pick (ltb most_gathered (already + length own)) gather (placed gather already own)
