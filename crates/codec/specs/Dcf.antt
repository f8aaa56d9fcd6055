-- The concise DCF (document 01, "Bytes"): 4-byte count, then entries of index (2), sub-index (1), size (4), data, low byte first. An
-- entry is readable when its 7 bytes and its data lie within the bytes and fewer than count came before. The readable entries stop at
-- the first that isn't. Trailing bytes are ignored.
use Rattle.std.specs.Prelude.{ℕ, zero, suc, ◌+◌, ◌-◌, List, [], ◌∷◌, ◌++◌, ltb, leb, eqb, length, get_or, take, drop, Result, Ok, Err}
use Rattle.laws.specs.Pick.{pick}
use Rattle.codec.specs.Bytes.{Bytes, le16, le16_at, le32_at}
use Rattle.codec.specs.declared.dcf.DcfCursor.{DcfCursor}
use Rattle.codec.specs.declared.dcf.DcfStep.{DcfStep}
use Rattle.codec.specs.declared.refusal.Refusal.{Refusal}

-- the count: what the first four bytes say, and the answer that gives it
abbrev pub count_of : Bytes → ℕ
count_of b = le32_at b 0

unfoldable pub dcf_count : Bytes → Result ℕ Refusal
dcf_count b = pick (ltb (length b) 4) (Err Refusal.DcfTooShort) (Ok (count_of b))

-- the size that an entry says, and the first place behind its data
abbrev pub size_at : Bytes → ℕ → ℕ
size_at b at = le32_at b (at + 3)

abbrev pub behind : Bytes → ℕ → ℕ
behind b at = at + 7 + size_at b at

-- An entry or a write is sent as index, sub-index, 0, data.
abbrev pub sent_as : ℕ → ℕ → Bytes → Bytes
sent_as index sub bytes = le16 index ++ (sub ∷ 0 ∷ bytes)

abbrev pub entry_at : Bytes → ℕ → Bytes
entry_at b at = sent_as (le16_at b at) (get_or b (at + 2) 0) (take (size_at b at) (drop (at + 7) b))

-- the readable entries from a place on, of which at most `left` are counted, each as the bytes that are sent
abbrev pub entries_from : ℕ → Bytes → ℕ → List Bytes
entries_from zero b at = []
entries_from (suc left) b at =
    pick (leb (at + 7) (length b))
    (pick (leb (behind b at) (length b)) (entry_at b at ∷ entries_from left b (behind b at)) [])
    []

-- the readable entries of a DCF
abbrev pub readable_entries : Bytes → List Bytes
readable_entries b = entries_from (count_of b) b 4

-- what the step finds at a cursor
unfoldable pub dcf_step : Bytes → DcfCursor → DcfStep
dcf_step b c =
    pick (eqb c.left 0) DcfStep.End
    (pick (leb (c.at + 7) (length b))
    (pick (leb (behind b c.at) (length b))
    (DcfStep.Entry
    (record { start = c.at + 7; len = size_at b c.at; index = le16_at b c.at; sub_index = get_or b (c.at + 2) 0 })
    (record { at = behind b c.at; left = c.left - 1 }))
    DcfStep.Unreadable)
    DcfStep.Unreadable)
