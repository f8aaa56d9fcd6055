-- `ostelumiv::command::command_named` meets its contract: what is named is the command of `command_with`.
use Rattle.laws.proofs.Picks.{not_below}
use Rattle.codec.proofs.Commands.{was_decoded}
use Rattle.ostelumiv.proofs.Flags.{flagged_lem}
use Rattle.ostelumiv.proofs.command.command_named.Goals as goal

pub returns : goal.returns
returns c =
    not_below _ _ _ _ c.if-segmentation-gt3.false
    (rw (was_decoded _ c.try_from.ensures c.in_ok-command_id.was, flagged_lem, flagged_lem, c.from.ensures, c.size_named.ensures))
