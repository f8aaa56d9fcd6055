-- Deadlines and parameters (document 01): timeout (milliseconds) and retries are parameters of 32 bits, each present or absent; absent
-- means 15000 and 2. A deadline to be set is time + timeout × 1000; refusal 8 where it exceeds 2^64 - 1.
use Rattle.std.specs.Prelude.{ℕ, ◌+◌, ◌*◌, leb, Option, Some, None}
use Rattle.laws.specs.Pick.{pick}

abbrev pub timeout_of : Option ℕ → ℕ
timeout_of (Some n) = n
timeout_of None = 15000

abbrev pub retries_of : Option ℕ → ℕ
retries_of (Some n) = n
retries_of None = 2

-- 2^64 - 1
abbrev pub latest : ℕ
latest = 18446744073709551615

abbrev pub due : ℕ → Option ℕ → ℕ
due time timeout = time + timeout_of timeout * 1000

unfoldable pub deadline_of : ℕ → Option ℕ → Option ℕ
deadline_of time timeout = pick (leb (due time timeout) latest) (Some (due time timeout)) None
