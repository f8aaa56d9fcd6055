-- A record (document 01, "Replay"): byte 0 operation (1 write, 2 read, 3 DCF, 4 reply, 5 tick, 6 ask, 7 gather), 1 node, 2-3 index, 4
-- sub-index, 5 length, 6-13 time, 14 flags of a reply, 15 unused, 16-31 data; numbers low byte first.
use Rattle.std.specs.Prelude.{ℕ, ◌+◌, ◌*◌, ltb, eqb, length, get_or, Option, Some, None, Result, Ok, Err}
use Rattle.laws.specs.Pick.{pick}
use Rattle.codec.specs.Bytes.{Bytes, le16_at, le32_at, part_at}
use Rattle.replay_record.specs.Types.{Operation, Record, Refusal, Turn, Use}

abbrev pub le64_at : Bytes → ℕ → ℕ
le64_at b at = le32_at b at + le32_at b (at + 4) * 4294967296

unfoldable pub operation_of : ℕ → Option Operation
operation_of n =
    pick (eqb n 1) (Some (Operation.Uses Use.Write)) (
    pick (eqb n 2) (Some Operation.Read) (
    pick (eqb n 3) (Some (Operation.Uses Use.Dcf)) (
    pick (eqb n 4) (Some (Operation.Uses Use.Reply)) (
    pick (eqb n 5) (Some (Operation.Turns Turn.Ticking)) (
    pick (eqb n 6) (Some (Operation.Turns Turn.Asking)) (
    pick (eqb n 7) (Some Operation.Gather) None))))))

-- 10 BadRecord where the operation is not 1 to 7
abbrev pub numbered : Option Operation → Result Operation Refusal
numbered None = Err Refusal.BadRecord
numbered (Some operation) = Ok operation

abbrev pub record_at : Bytes → Operation → Record
record_at b operation =
    record {
      operation = operation;
      node = get_or b 1 0;
      index = le16_at b 2;
      sub_index = get_or b 4 0;
      length = get_or b 5 0;
      time = le64_at b 6;
      flags = get_or b 14 0;
    }

-- 10 BadRecord: operation not 1 to 7, or length over 16. 11 ShortRecord: input ends inside a record.
abbrev pub record_named : Bytes → Option Operation → Result Record Refusal
record_named b None = Err Refusal.BadRecord
record_named b (Some operation) =
    pick (ltb 16 (get_or b 5 0)) (Err Refusal.BadRecord) (Ok (record_at b operation))

unfoldable pub record_read : Bytes → Result Record Refusal
record_read b =
    pick (ltb (length b) 32) (Err Refusal.ShortRecord) (record_named b (operation_of (get_or b 0 0)))

-- the record's own data
abbrev pub own_data : Bytes → Record → Bytes
own_data b r = part_at b 16 r.length
