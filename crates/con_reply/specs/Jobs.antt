-- The jobs that send (document 01, "Bytes"), as demand 3 speaks of them: a write or a concise DCF, in either mode, with its bytes, its readable
-- entries, how many are counted, and its start.
use Rattle.std.specs.Prelude.{ℕ, List, [], ◌∷◌, Result}
use Rattle.codec.specs.declared.refusal.Refusal.{Refusal}
use Rattle.codec.specs.Bytes.{Bytes}
use Rattle.codec.specs.Dcf.{count_of, sent_as, readable_entries}
use Rattle.connection.specs.Start.{start_write, start_dcf}
use Rattle.connection.specs.Types.{Mode, Now, SdoClientConnection}

-- a job that sends, by its mode: a write (index, sub-index, data), or a concise DCF
pub data Job : Type 0 where
  writes : Mode → ℕ → ℕ → Bytes → Job
  loads : Mode → Bytes → Job

-- the bytes that its start puts at the start of the room
abbrev pub bytes_of : Job → Bytes
bytes_of (writes mode index sub bytes) = bytes
bytes_of (loads mode dcf) = dcf

-- its readable entries, and how many are counted: a write is its own one readable entry
abbrev pub entries_of : Job → List Bytes
entries_of (writes mode index sub bytes) = sent_as index sub bytes ∷ []
entries_of (loads mode dcf) = readable_entries dcf

abbrev pub counted : Job → ℕ
counted (writes mode index sub bytes) = 1
counted (loads mode dcf) = count_of dcf

abbrev pub start_of : SdoClientConnection → ℕ → Now → Job → Bytes → Result SdoClientConnection Refusal
start_of c t n (writes mode index sub bytes) room = start_write c t n mode index sub bytes room
start_of c t n (loads mode dcf) room = start_dcf c t n mode dcf room
