-- Bytes, and numbers in them, low byte first (document 01, "Bytes").
use Rattle.std.specs.Prelude.{ℕ, ◌+◌, ◌*◌, ◌/◌, ◌%◌, List, [], ◌∷◌, ◌++◌, leb, length, get_or, take, drop}
use Rattle.laws.specs.Pick.{pick}

abbrev pub Bytes : Type 0
Bytes = List ℕ

-- a number as two bytes, and as four
abbrev pub le16 : ℕ → Bytes
le16 n = n % 256 ∷ n / 256 % 256 ∷ []

abbrev pub le32 : ℕ → Bytes
le32 n = n % 256 ∷ n / 256 % 256 ∷ n / 65536 % 256 ∷ n / 16777216 % 256 ∷ []

-- the number of the two bytes at a place, and of the four
abbrev pub le16_at : Bytes → ℕ → ℕ
le16_at b at = get_or b at 0 + get_or b (at + 1) 0 * 256

abbrev pub le32_at : Bytes → ℕ → ℕ
le32_at b at = le16_at b at + le16_at b (at + 2) * 65536

-- the part of len bytes that starts at a place; one that does not lie within the bytes is empty
unfoldable pub part_at : Bytes → ℕ → ℕ → Bytes
part_at b start len = pick (leb (start + len) (length b)) (take len (drop start b)) []

-- a buffer with some bytes in the place of its own from `at` on
unfoldable pub placed : Bytes → ℕ → Bytes → Bytes
placed buffer at src = take at buffer ++ src ++ drop (at + length src) buffer
