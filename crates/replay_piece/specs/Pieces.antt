-- A host that replays an input by calls of `replay_piece`, and what it prints. A call gets the next bytes that were not read so far: those of any number of
-- records, or fewer where the input ends, so that only the last piece ends inside a record. It gets the run and the slices as the call before left them.
-- Between calls the host may write the text out and begin it anew. Where the text is full a call reads less than it gets, and the next one gets the rest.
use Rattle.std.specs.Prelude.{ℕ, ◌+◌, ◌*◌, ◌<◌, ◌≤◌, List, [], ◌∷◌, ◌++◌, ◌⊎◌, ◌≡◌, length, take, drop, Option, None}
use Rattle.codec.specs.Bytes.{Bytes}
use Rattle.replay_line.specs.Line.{most_line}
use Rattle.replay_piece.specs.Piece.{Stand, piece_of, run_of}
use Rattle.replay_piece.specs.Types.{LastValue, Settings}
use Rattle.replay_piece.specs.Whole.{first, lines_with, most_records, record_size}

-- the next call, with up to so many records; or the text is written out
pub data Step : Type 0 where
  passes : ℕ → Step
  prints : Step

-- where a host stands: what the last call left, the input that was not read so far, and what was written
pub record HostStand : Type 0 where
  pub stand : Stand
  pub left : Bytes
  pub printed : Bytes

-- the text so far: the first bytes of the buffer
abbrev pub text_of : Stand → Bytes
text_of s = take s.run.progress.text s.text

-- a text of no bytes: the buffer is used again
abbrev pub emptied : Stand → Stand
emptied s =
    record {
      run =
          run_of s.run.manager
          (record {
            gathered = s.run.progress.gathered;
            number = s.run.progress.number;
            read = s.run.progress.read;
            text = 0;
            value = s.run.progress.value;
          });
      store = s.store;
      gather = s.gather;
      output = s.output;
      text = s.text;
    }

-- no record was answered a value
abbrev pub no_value : Option LastValue
no_value = None

-- at first nothing is read and nothing written; the text's buffer is any
abbrev pub begins : Bytes → Bytes → HostStand
begins input text =
    record {
      stand =
          record {
            run =
                run_of first.manager
                (record { gathered = first.gathered; number = first.number; read = 0; text = 0; value = no_value });
            store = first.store;
            gather = first.gather;
            output = first.output;
            text = text;
          };
      left = input;
      printed = [];
    }

-- room for a line; and all is read: nothing is left, or 65,535 records were read
abbrev pub Room : HostStand → Type 0
Room h = h.stand.run.progress.text + most_line ≤ length h.stand.text

abbrev pub AllRead : HostStand → Type 0
AllRead h = (h.left ≡ []) ⊎ (h.stand.run.progress.number ≡ most_records)

module _ (settings : Settings) where
  -- what a call of `replay_piece` with the next records promises
  unfoldable pub passed : HostStand → ℕ → Stand
  passed h records =
      let s : Stand = h.stand in
      piece_of s.run settings (take (records * record_size) h.left) s.store s.gather s.output s.text

  abbrev pub after_step : HostStand → Step → HostStand
  after_step h (passes records) =
      let s : Stand = passed h records in record { stand = s; left = drop s.run.progress.read h.left; printed = h.printed }
  after_step h prints = record { stand = emptied h.stand; left = h.left; printed = h.printed ++ text_of h.stand }

  unfoldable pub after_steps : HostStand → List Step → HostStand
  after_steps h [] = h
  after_steps h (x ∷ xs) = after_steps (after_step h x) xs

-- The law: whatever the steps, once all is read, what was written and the text that is left are all lines of the input, or all its values, as the settings say.
unfoldable pub PiecesJoin : Type 0
PiecesJoin =
    (settings : Settings) (input text : Bytes) (steps : List Step)
    → let h : HostStand = after_steps settings (begins input text) steps in
    AllRead h → h.printed ++ text_of h.stand ≡ lines_with settings input

-- And a host can tell when all is read: a call that gets a byte at least, and room for a line, reads none only then.
unfoldable pub NoneRead : Type 0
NoneRead =
    (settings : Settings) (input text : Bytes) (steps : List Step) (records : ℕ)
    → let h : HostStand = after_steps settings (begins input text) steps in
    Room h → 0 < length (take (records * record_size) h.left) → (passed settings h records).run.progress.read ≡ 0 → AllRead h
