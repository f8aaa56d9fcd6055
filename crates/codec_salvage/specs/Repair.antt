-- What is true of a repaired DCF (document 02, CR 3), whatever bytes the old one has.
use Rattle.std.specs.Prelude.{ℕ, ◌+◌, ◌≤◌, ◌<◌, ◌≡◌, List, [], ◌∷◌, ◌++◌, length, get_or, drop}
use Rattle.codec.specs.Bytes.{Bytes}
use Rattle.codec.specs.Dcf.{count_of, readable_entries}
use Rattle.codec_salvage.specs.Salvage.{repaired}

-- numbers that are bytes
abbrev pub Octets : Bytes → Type 0
Octets b = (i : ℕ) → get_or b i 0 < 256

-- the bytes that some entries take in a DCF: each takes 7 and its data, where it is sent as 4 and its data
abbrev pub taken : List Bytes → ℕ
taken [] = 0
taken (e ∷ es) = 3 + length e + taken es

-- all counted entries are readable, and nothing stands after them
pub record Whole (dcf : Bytes) : Type 0 where
  pub counted : count_of dcf ≡ length (readable_entries dcf)
  pub alone : length dcf ≡ 4 + taken (readable_entries dcf)

pub record Repairs (dcf : Bytes) : Type 0 where
  -- the entries of the repaired DCF are the readable entries of the old one, and it is whole
  pub entries : readable_entries (repaired dcf) ≡ readable_entries dcf
  pub whole : Whole (repaired dcf)
  -- repairing twice is repairing once
  pub once : repaired (repaired dcf) ≡ repaired dcf
  -- a whole DCF comes back unchanged, and no other does
  pub unchanged : Whole dcf → repaired dcf ≡ dcf
  pub changed : repaired dcf ≡ dcf → Whole dcf
  -- it is no longer than the old one; behind its count the old DCF is what the repaired one has behind its own, and then what is dropped
  pub no_longer : 4 ≤ length dcf → length (repaired dcf) ≤ length dcf
  pub kept : drop 4 (repaired dcf) ++ drop (length (repaired dcf)) dcf ≡ drop 4 dcf
