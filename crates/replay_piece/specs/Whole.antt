-- The replay as a whole (document 01, "Replay"): from the bytes of an input to all its lines. Its records, 32 bytes each, are taken one after another.
-- What a record asks for and what comes of it are `record_asks` and `granted` (replay_record's Request); its line is `line_of` (replay_line's Line). And
-- `values`, which reads the same records: its lines are `value_text` (replay_line's Value).
use Rattle.std.specs.Prelude.{ℕ, zero, suc, ◌+◌, [], ◌∷◌, ◌++◌, take, drop, replicate, None}
use Rattle.codec.specs.Bytes.{Bytes}
use Rattle.man_table.specs.Table.{new_manager, store_size}
use Rattle.man_value.specs.Value.{object_of}
use Rattle.manager.specs.Calls.{After, output_size}
use Rattle.replay_line.specs.Line.{line_of}
use Rattle.replay_line.specs.Value.{node_of, value_text}
use Rattle.replay_record.specs.Gather.{gather_size}
use Rattle.replay_record.specs.Request.{Asked, granted, record_asks}
use Rattle.replay_piece.specs.Types.{Mode, SdoClientManager, Settings, Shows}

abbrev pub record_size : ℕ
record_size = 32

abbrev pub most_records : ℕ
most_records = 65535

-- What goes from record to record: the manager and its store, how many bytes are gathered and the buffer that they lie in, the output that commands
-- are written to, and the number of the last record.
pub record State : Type 0 where
  pub manager : SdoClientManager
  pub store : Bytes
  pub gathered : ℕ
  pub gather : Bytes
  pub output : Bytes
  pub number : ℕ

-- at first: a new manager, a store of 32,768 zeros, nothing gathered, no record read
unfoldable pub first : State
first =
    record {
      manager = new_manager;
      store = replicate store_size 0;
      gathered = 0;
      gather = replicate gather_size 0;
      output = replicate output_size 0;
      number = 0;
    }

-- What is written of a record, by the manager ahead of it and what came of it: the replay's line; or the line of its value, where it ended a read Complete.
abbrev pub shown : Shows → ℕ → Bytes → SdoClientManager → After → Bytes
shown Shows.Lines number b m a = line_of number b a.done.answer a.done.ends a.output
shown Shows.Values number b m a = value_text number b (object_of m (node_of b)) a.done.answer a.store

module _ (settings : Settings) where
  -- a record: what it asks for, what comes of that, what is written of it, and the state after it
  abbrev pub asked : State → Bytes → Asked
  asked s b = record_asks s.gathered b settings.choices s.gather

  abbrev pub result : State → Bytes → After
  result s b = granted s.manager s.store s.output (asked s b).request

  abbrev pub line : State → Bytes → Bytes
  line s b = shown settings.shows (s.number + 1) b s.manager (result s b)

  unfoldable pub next : State → Bytes → State
  next s b =
      record {
        manager = (result s b).done.manager;
        store = (result s b).store;
        gathered = (asked s b).gathered;
        gather = (asked s b).gather;
        output = (result s b).output;
        number = s.number + 1;
      }

  -- The lines of at most so many records. Where fewer than 32 bytes are left they are a short record, and nothing is left after it.
  unfoldable pub lines_from : ℕ → State → Bytes → Bytes
  lines_from zero s input = []
  lines_from (suc most) s [] = []
  lines_from (suc most) s (b ∷ more) =
      line s (take record_size (b ∷ more)) ++ lines_from most (next s (take record_size (b ∷ more))) (drop record_size (b ∷ more))

  -- at most 65,535 records are read
  abbrev pub lines_with : Bytes → Bytes
  lines_with input = lines_from most_records first input

-- The replay and `values` are in repository mode, with timeout and retries absent.
abbrev pub plain : Shows → Settings
plain shows =
    record { shows = shows; choices = record { mode = Mode.Repository; timeout = None; retries = None } }

abbrev pub all_lines : Bytes → Bytes
all_lines input = lines_with (plain Shows.Lines) input

abbrev pub all_values : Bytes → Bytes
all_values input = lines_with (plain Shows.Values) input
