-- What a call tells its host (document 01, "the manager lent for change to the host loop"): what the call comes to by value, but for the manager, which
-- stands in the host's place.
use Rattle.manager.specs.declared.types.Done.{Done}
use Rattle.man_lent.specs.declared.types.Told.{Told}

abbrev pub told_of : Done → Told
told_of d = record { answer = d.answer; ends = d.ends }
