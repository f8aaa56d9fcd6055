-- What document 01 says that `replay` prints, as bytes: its five records, a short first record of one byte, and empty input. And what `values` prints, the
-- bench tool for document 02's CR 1: the line of a read of node 3; nothing for document 01's run, which has no read, for a short record and for empty input.
use Rattle.std.specs.Prelude.{[], ◌∷◌, ◌++◌, ◌≡◌, replicate}
use Rattle.codec.specs.Bytes.{Bytes}
use Rattle.replay_piece.specs.Whole.{all_lines, all_values}

-- `01 05 00 21 01 02`, ten zeros, `01 04`, fourteen zeros; `06`, zeros; `04 05 01 01`, zeros; `06`, zeros; `04 05 06 06`, zeros
abbrev pub five_records : Bytes
five_records =
    (0x01 ∷ 0x05 ∷ 0x00 ∷ 0x21 ∷ 0x01 ∷ 0x02 ∷ []) ++ replicate 10 0 ++ (0x01 ∷ 0x04 ∷ []) ++ replicate 14 0
    ++ (0x06 ∷ []) ++ replicate 31 0
    ++ (0x04 ∷ 0x05 ∷ 0x01 ∷ 0x01 ∷ []) ++ replicate 28 0
    ++ (0x06 ∷ []) ++ replicate 31 0
    ++ (0x04 ∷ 0x05 ∷ 0x06 ∷ 0x06 ∷ []) ++ replicate 28 0

-- 1 1 0 - - -
abbrev pub line1 : Bytes
line1 = 49 ∷ 32 ∷ 49 ∷ 32 ∷ 48 ∷ 32 ∷ 45 ∷ 32 ∷ 45 ∷ 32 ∷ 45 ∷ 10 ∷ []

-- 2 6 0 5 FC0100000001000000000000 -
abbrev pub line2 : Bytes
line2 =
    50 ∷ 32 ∷ 54 ∷ 32 ∷ 48 ∷ 32 ∷ 53 ∷ 32 ∷ 70 ∷ 67 ∷ 48 ∷ 49 ∷ 48 ∷ 48 ∷ 48 ∷ 48 ∷ 48 ∷ 48 ∷ 48 ∷ 49 ∷ 48 ∷ 48 ∷ 48 ∷ 48 ∷ 48 ∷ 48 ∷ 48 ∷ 48
    ∷ 48 ∷ 48 ∷ 48 ∷ 48 ∷ 32 ∷ 45 ∷ 10 ∷ []

-- 3 4 0 - - -
abbrev pub line3 : Bytes
line3 = 51 ∷ 32 ∷ 52 ∷ 32 ∷ 48 ∷ 32 ∷ 45 ∷ 32 ∷ 45 ∷ 32 ∷ 45 ∷ 10 ∷ []

-- 4 6 0 5 020700000001000106000000002101000104 -
abbrev pub line4 : Bytes
line4 =
    52 ∷ 32 ∷ 54 ∷ 32 ∷ 48 ∷ 32 ∷ 53 ∷ 32 ∷ 48 ∷ 50 ∷ 48 ∷ 55 ∷ 48 ∷ 48 ∷ 48 ∷ 48 ∷ 48 ∷ 48 ∷ 48 ∷ 49 ∷ 48 ∷ 48 ∷ 48 ∷ 49 ∷ 48 ∷ 54 ∷ 48 ∷ 48
    ∷ 48 ∷ 48 ∷ 48 ∷ 48 ∷ 48 ∷ 48 ∷ 50 ∷ 49 ∷ 48 ∷ 49 ∷ 48 ∷ 48 ∷ 48 ∷ 49 ∷ 48 ∷ 52 ∷ 32 ∷ 45 ∷ 10 ∷ []

-- 5 4 0 - - 5:C:1
abbrev pub line5 : Bytes
line5 = 53 ∷ 32 ∷ 52 ∷ 32 ∷ 48 ∷ 32 ∷ 45 ∷ 32 ∷ 45 ∷ 32 ∷ 53 ∷ 58 ∷ 67 ∷ 58 ∷ 49 ∷ 10 ∷ []

-- 1 - 11 - - -
abbrev pub short_line : Bytes
short_line = 49 ∷ 32 ∷ 45 ∷ 32 ∷ 49 ∷ 49 ∷ 32 ∷ 45 ∷ 32 ∷ 45 ∷ 32 ∷ 45 ∷ 10 ∷ []

unfoldable pub AsDocument : Type 0
AsDocument =
    (all_lines five_records ≡ line1 ++ line2 ++ line3 ++ line4 ++ line5) × (all_lines (0x01 ∷ []) ≡ short_line) × (all_lines [] ≡ [])

-- read 2100:01 of node 3, ask, its opening answered, ask, its read answered by 01 04
abbrev pub read_records : Bytes
read_records =
    (0x02 ∷ 0x03 ∷ 0x00 ∷ 0x21 ∷ 0x01 ∷ []) ++ replicate 27 0
    ++ (0x06 ∷ []) ++ replicate 31 0
    ++ (0x04 ∷ 0x03 ∷ 0x01 ∷ 0x01 ∷ []) ++ replicate 28 0
    ++ (0x06 ∷ []) ++ replicate 31 0
    ++ (0x04 ∷ 0x03 ∷ 0x06 ∷ 0x06 ∷ 0x00 ∷ 0x02 ∷ []) ++ replicate 10 0 ++ (0x01 ∷ 0x04 ∷ []) ++ replicate 14 0

-- 5 3 2100:01 0104
abbrev pub value_of3 : Bytes
value_of3 = 53 ∷ 32 ∷ 51 ∷ 32 ∷ 50 ∷ 49 ∷ 48 ∷ 48 ∷ 58 ∷ 48 ∷ 49 ∷ 32 ∷ 48 ∷ 49 ∷ 48 ∷ 52 ∷ 10 ∷ []

unfoldable pub ValuesShown : Type 0
ValuesShown = (all_values read_records ≡ value_of3) × (all_values five_records ≡ []) × (all_values (0x01 ∷ []) ≡ []) × (all_values [] ≡ [])
