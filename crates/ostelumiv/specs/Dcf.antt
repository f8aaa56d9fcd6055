-- The concise DCF in numbers: its count, and what a step finds. A refusal, and where no entry is found, comes with zeros.
use Rattle.std.specs.Prelude.{ℕ, Result, Ok, Err}
use Rattle.codec.specs.declared.refusal.Refusal.{Refusal}
use Rattle.codec.specs.declared.dcf.DcfStep.{DcfStep}
use Rattle.ostelumiv.specs.Answers.{count_refused}
use Rattle.ostelumiv.specs.declared.answers.CountFields.{CountFields}
use Rattle.ostelumiv.specs.declared.dcf.StepFields.{StepFields}

abbrev pub count_fields : Result ℕ Refusal → CountFields
count_fields (Ok n) = record { refusal = 0; count = n }
count_fields (Err r) = count_refused r

-- kind: 0 none counted any more, 1 an entry, 2 one that is not readable
abbrev pub no_entry : ℕ → StepFields
no_entry kind =
    record { kind = kind; sub_index = 0; index = 0; start = 0; len = 0; next_at = 0; next_left = 0 }

abbrev pub step_fields : DcfStep → StepFields
step_fields (DcfStep.Entry entry next) =
    record {
      kind = 1;
      sub_index = entry.sub_index;
      index = entry.index;
      start = entry.start;
      len = entry.len;
      next_at = next.at;
      next_left = next.left;
    }
step_fields DcfStep.End = no_entry 0
step_fields DcfStep.Unreadable = no_entry 2
