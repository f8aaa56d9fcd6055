-- What the payload of a request asks for, in the numbers that each answer is told by. A refusal, and what is not found, comes with
-- zeros.
use Rattle.std.specs.Prelude.{ℕ, Option, Some, None, Result, Ok, Err}
use Rattle.codec.specs.declared.request.ReadByIndexRequest.{ReadByIndexRequest}
use Rattle.codec.specs.declared.request.WriteByIndexRequest.{WriteByIndexRequest}
use Rattle.codec.specs.declared.request.WriteAllByIndexRequest.{WriteAllByIndexRequest}
use Rattle.codec.specs.declared.request.MultipleParamEntry.{MultipleParamEntry}
use Rattle.codec.specs.Refusals.{refusal_number}
use Rattle.codec.specs.declared.refusal.Refusal.{Refusal}
use Rattle.ostelumiv.specs.Answers.{count_refused}
use Rattle.ostelumiv.specs.declared.answers.CountFields.{CountFields}
use Rattle.ostelumiv.specs.declared.request.EntryFields.{EntryFields}
use Rattle.ostelumiv.specs.declared.request.IndexFields.{IndexFields}

abbrev pub index_fields : ℕ → ℕ → ℕ → ℕ → IndexFields
index_fields index sub start len =
    record { refusal = 0; sub_index = sub; index = index; data_start = start; data_len = len }

abbrev pub index_refused : Refusal → IndexFields
index_refused r = record { refusal = refusal_number r; sub_index = 0; index = 0; data_start = 0; data_len = 0 }

abbrev pub read_fields : Result ReadByIndexRequest Refusal → IndexFields
read_fields (Ok q) = index_fields q.index q.sub_index 0 0
read_fields (Err r) = index_refused r

abbrev pub write_fields : Result WriteByIndexRequest Refusal → IndexFields
write_fields (Ok q) = index_fields q.index q.sub_index q.start q.len
write_fields (Err r) = index_refused r

abbrev pub write_all_fields : Result WriteAllByIndexRequest Refusal → IndexFields
write_all_fields (Ok q) = index_fields q.index 0 q.start q.len
write_all_fields (Err r) = index_refused r

abbrev pub entries_fields : Result ℕ Refusal → CountFields
entries_fields (Ok n) = record { refusal = 0; count = n }
entries_fields (Err r) = count_refused r

abbrev pub entry_fields : Option MultipleParamEntry → EntryFields
entry_fields (Some e) = record { found = 1; sub_index = e.sub_index; index = e.index }
entry_fields None = record { found = 0; sub_index = 0; index = 0 }
