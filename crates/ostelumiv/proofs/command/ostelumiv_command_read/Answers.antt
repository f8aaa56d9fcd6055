-- `ostelumiv::command::ostelumiv_command_read` meets its contract: each arm tells its answer by `command_fields`, and a command that was read has the
-- number that stands in the buffer.
use mathlib.Core.Path.{sym, ◌∙◌}
use Rattle.laws.proofs.Answers.{told}
use Rattle.codec.proofs.Commands.{read_number}
use Rattle.ostelumiv.specs.Command.{command_fields}
use Rattle.ostelumiv.proofs.Flags.{flag_told, present_told, size_told}
use Rattle.ostelumiv.proofs.command.ostelumiv_command_read.Goals as goal

pub returns-in-Ok : goal.returns-in-Ok
returns-in-Ok c =
    let read = c.deserialize.ensures in
    let found = c.in-Ok.is in
    told command_fields read found
    (rw (
      c.from.ensures,
      c.from-in-Ok.ensures,
      c.from-in-Ok-2.ensures.0,
      ← (read_number _ (sym found ∙ read)).1,
      c.from-in-Ok-3.ensures,
      c.is_some.ensures,
      c.unwrap_or.ensures,
      flag_told,
      flag_told,
      present_told,
      size_told,
    ))
