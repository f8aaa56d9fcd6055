-- Text put into bytes: numbers in decimal and bytes in hex, as the replay's lines have them.
use Rattle.std.specs.Prelude.{ℕ, zero, suc, ◌+◌, ◌*◌, ◌/◌, ◌%◌, ◌≤◌, ◌≡◌, [], ◌∷◌, ◌++◌, ltb, length, get_or}
use Rattle.laws.specs.Pick.{pick}
use Rattle.codec.specs.Bytes.{Bytes, placed}
use Rattle.replay_line.specs.declared.text.Text.{Text}

-- so many bytes are free behind the text
abbrev pub Room : Text → ℕ → Type 0
Room t n = t.end + n ≤ length t.out.now

-- some text, of so many bytes at most, was put behind a text: the bytes after it, and where it ends; the buffer is the same, and as long
pub record Puts (t : Text) (added : Bytes) (most : ℕ) (u : Text) : Type 0 where
  pub same_buffer : u.out.ghost_name ≡ t.out.ghost_name
  pub bytes : u.out.now ≡ placed t.out.now t.end added
  pub ends : u.end ≡ t.end + length added
  pub few : length added ≤ most
  pub fits : t.end + length added ≤ length t.out.now
  pub long : length u.out.now ≡ length t.out.now

-- ten to the power k
unfoldable pub power : ℕ → ℕ
power zero = 1
power (suc k) = power k * 10

abbrev pub digit : ℕ → ℕ
digit d = 48 + d

-- the digits of a number before its last, from the place of power k down, without zeros in front
unfoldable pub front : ℕ → ℕ → Bytes
front zero n = []
front (suc k) n = pick (ltb n (power (suc k))) [] (digit (n / power (suc k) % 10) ∷ []) ++ front k n

-- a number of up to k + 1 digits in decimal
unfoldable pub decimal : ℕ → ℕ → Bytes
decimal k n = front k n ++ (digit (n % 10) ∷ [])

-- 0 to 9 and A to F
unfoldable pub hex_digits : Bytes
hex_digits = 48 ∷ 49 ∷ 50 ∷ 51 ∷ 52 ∷ 53 ∷ 54 ∷ 55 ∷ 56 ∷ 57 ∷ 65 ∷ 66 ∷ 67 ∷ 68 ∷ 69 ∷ 70 ∷ []

unfoldable pub hex : Bytes → Bytes
hex [] = []
hex (b ∷ rest) = get_or hex_digits (b / 16) 0 ∷ get_or hex_digits (b % 16) 0 ∷ hex rest
