-- A command that was read has the eight bytes of its header in the buffer.
use Rattle.std.specs.Prelude.{Result, Ok}
use Rattle.codec.specs.declared.refusal.Refusal.{Refusal}
use Rattle.codec.specs.declared.command.FoundCommand.{FoundCommand}
use Prim.Native.Nat.{◌≤◌}
use mathlib.Core.Path.{◌≡◌, sym, ◌∙◌}
use lib.ListN.{length}
use Rattle.codec.proofs.Commands.{read_number}
use Rattle.codec.specs.Bytes.{Bytes}
use Rattle.codec.specs.Command.{command_read}

pub has_header : (b : Bytes) {f : FoundCommand} {r : Result FoundCommand Refusal} → r ≡ command_read b → r ≡ Ok f → 8 ≤ length b
has_header b read found = (read_number _ (sym found ∙ read)).0
