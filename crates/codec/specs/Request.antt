-- The request readers (document 01, "Numbers that refuse", 3: index request under 4 bytes; multiple read not a multiple of 4). An index
-- request is index (2), sub-index (1), one byte that is ignored, and for a write its data; a WriteAllByIndex has no sub-index:
-- that byte is ignored too. A multiple read is entries of index (2), sub-index (1) and a byte that is ignored.
use Rattle.std.specs.Prelude.{ℕ, ◌+◌, ◌-◌, ◌*◌, ◌/◌, ◌%◌, ltb, eqb, length, get_or, Option, Some, None, Result, Ok, Err}
use Rattle.codec.specs.declared.request.ReadByIndexRequest.{ReadByIndexRequest}
use Rattle.codec.specs.declared.request.WriteByIndexRequest.{WriteByIndexRequest}
use Rattle.codec.specs.declared.request.WriteAllByIndexRequest.{WriteAllByIndexRequest}
use Rattle.codec.specs.declared.request.MultipleParamEntry.{MultipleParamEntry}
use Rattle.laws.specs.Pick.{pick}
use Rattle.codec.specs.Bytes.{Bytes, le16_at, le32_at}
use Rattle.codec.specs.declared.refusal.Refusal.{Refusal}

abbrev pub read_by_index : Bytes → Result ReadByIndexRequest Refusal
read_by_index p =
    pick (ltb (length p) 4)
    (Err Refusal.SdoInvalidCommandPayload)
    (Ok (record { index = le16_at p 0; sub_index = get_or p 2 0 }))

abbrev pub write_by_index : Bytes → Result WriteByIndexRequest Refusal
write_by_index p =
    pick (ltb (length p) 4)
    (Err Refusal.SdoInvalidCommandPayload)
    (Ok (record { index = le16_at p 0; sub_index = get_or p 2 0; start = 4; len = length p - 4 }))

abbrev pub write_all_by_index : Bytes → Result WriteAllByIndexRequest Refusal
write_all_by_index p =
    pick (ltb (length p) 4)
    (Err Refusal.SdoInvalidCommandPayload)
    (Ok (record { index = le16_at p 0; start = 4; len = length p - 4 }))

-- how many entries, and the entry at a place
abbrev pub read_multiple_param : Bytes → Result ℕ Refusal
read_multiple_param p =
    pick (eqb (length p % 4) 0)
    (Ok (length p / 4))
    (Err Refusal.SdoInvalidCommandPayload)

abbrev pub multiple_param_entry : Bytes → ℕ → Option MultipleParamEntry
multiple_param_entry p place =
    pick (eqb (length p % 4) 0)
    (pick (ltb place (length p / 4))
    (Some (record { index = le16_at p (place * 4); sub_index = get_or p (place * 4 + 2) 0 }))
    None)
    None

-- the code of an abort: the number of its first four bytes, or none if under 4
abbrev pub abort_code : Bytes → Option ℕ
abort_code p = pick (ltb (length p) 4) None (Some (le32_at p 0))
