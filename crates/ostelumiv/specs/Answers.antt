-- The answers that several functions give, in numbers: of a write, and of a count. A refusal comes with zeros.
use Rattle.std.specs.Prelude.{Result, Ok, Err, ℕ}
use Rattle.codec.specs.Refusals.{refusal_number}
use Rattle.codec.specs.declared.refusal.Refusal.{Refusal}
use Rattle.ostelumiv.specs.declared.answers.CountFields.{CountFields}
use Rattle.ostelumiv.specs.declared.answers.WrittenFields.{WrittenFields}

abbrev pub written_fields : Result ℕ Refusal → WrittenFields
written_fields (Ok n) = record { refusal = 0; bytes = n }
written_fields (Err r) = record { refusal = refusal_number r; bytes = 0 }

abbrev pub count_refused : Refusal → CountFields
count_refused r = record { refusal = refusal_number r; count = 0 }
