-- A piece of a trace, replayed (document 01, "Replay"): records of 32 bytes, and what is written of each (`shown`); at most 65,535 records. What a record asks for is
-- in replay_record's Request. What is left at the end is a short record, so only the last piece of an input may end inside one. The piece stops where the
-- text has no room for a line more.
use Rattle.std.specs.Prelude.{ℕ, zero, suc, ◌+◌, Bool, true, [], ◌∷◌, eqb, ltb, length, take, drop, Option, Some}
use Rattle.laws.specs.Pick.{pick}
use Rattle.codec.specs.Bytes.{Bytes, placed}
use Rattle.man_table.specs.Sweep.{running}
use Rattle.man_table.specs.Table.{live, table_of}
use Rattle.replay_line.specs.Line.{most_line}
use Rattle.manager.specs.Calls.{After}
use Rattle.replay_record.specs.Request.{Asked}
use Rattle.replay_piece.specs.Types.{Answer, Done, LastValue, Progress, Run, SdoClientManager, Settings}
use Rattle.replay_piece.specs.Whole.{State, asked, line, most_records, record_size, result}

-- where a replay stands: manager and progress, the store, the gather's bytes, the output, the text
pub record Stand : Type 0 where
  pub run : Run
  pub store : Bytes
  pub gather : Bytes
  pub output : Bytes
  pub text : Bytes

-- The last value after a record. Where no job ended it is left alone, without a look at the answer: a value comes only with an end (theorems' `ValuesAlone`).
abbrev pub last_by : Answer → ℕ → Option LastValue → Option LastValue
last_by Answer.Nothing number last = last
last_by (Answer.Sent s) number last = last
last_by (Answer.Value part) number last = Some (record { «record» = number; at = part })
last_by (Answer.Refused r) number last = last

unfoldable pub value_after : ℕ → Answer → ℕ → Option LastValue → Option LastValue
value_after ended answer number last = pick (eqb ended 0) last (last_by answer number last)

-- after a call, and a line behind the text
abbrev pub run_with : Done → Progress → Bytes → Run
run_with d p line =
    record {
      manager = d.manager;
      progress =
          record {
            gathered = p.gathered;
            number = p.number;
            read = p.read;
            text = p.text + length line;
            value = value_after d.ends.count d.answer p.number p.value;
          };
    }

abbrev pub run_of : SdoClientManager → Progress → Run
run_of manager progress = record { manager = manager; progress = progress }

-- a record is counted, and what is gathered after it
abbrev pub counted : Progress → ℕ → ℕ → Progress
counted p gathered bytes =
    record { gathered = gathered; number = p.number + 1; read = p.read + bytes; text = p.text; value = p.value }

-- 65,535 records, or no room for a line more
abbrev pub stops : Stand → Bool
stops s =
    pick (eqb s.run.progress.number most_records) true (ltb (length s.text) (s.run.progress.text + most_line))

-- what goes from record to record, as the whole says it
abbrev pub state_of : Stand → State
state_of s =
    record {
      manager = s.run.manager;
      store = s.store;
      gathered = s.run.progress.gathered;
      gather = s.gather;
      output = s.output;
      number = s.run.progress.number;
    }

module _ (settings : Settings) where
  -- a record, and what is written of it behind the text
  unfoldable pub after_record : Stand → Bytes → Stand
  after_record s b =
      let a : Asked = asked settings (state_of s) b in
      let d : After = result settings (state_of s) b in
      record {
        run = run_with d.done (counted s.run.progress a.gathered (length b)) (line settings (state_of s) b);
        store = d.store;
        gather = a.gather;
        output = d.output;
        text = placed s.text s.run.progress.text (line settings (state_of s) b);
      }

  -- up to so many records, one after another
  unfoldable pub replayed : ℕ → Stand → Bytes → Stand
  replayed zero s input = s
  replayed (suc k) s [] = s
  replayed (suc k) s (b ∷ more) =
      pick (stops s) s (replayed k (after_record s (take record_size (b ∷ more))) (drop record_size (b ∷ more)))

-- a run with so many bytes read of the piece
abbrev pub stand_at : SdoClientManager → Progress → ℕ → Bytes → Bytes → Bytes → Bytes → Stand
stand_at m p read store gather output text =
    record {
      run = run_of m (record { gathered = p.gathered; number = p.number; read = read; text = p.text; value = p.value });
      store = store;
      gather = gather;
      output = output;
      text = text;
    }

-- At its beginning connections that had ended are removed; a manager that the library's calls made holds none.
abbrev pub begun : Run → Bytes → Bytes → Bytes → Bytes → Stand
begun r store gather output text =
    stand_at (table_of (running (live r.manager)) r.manager.next_transaction_id) r.progress 0 store gather output text

-- all the records of a piece: there are no more than its bytes
abbrev pub piece_of : Run → Settings → Bytes → Bytes → Bytes → Bytes → Bytes → Stand
piece_of r settings input store gather output text =
    replayed settings (length input) (begun r store gather output text) input
