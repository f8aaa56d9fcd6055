use Rattle.codec_salvage.proofs.Told.{at_within, left_within, octets, told}
use Rattle.codec_salvage.proofs.told_of.Goals as goal

pub overflow_sub-dropped : goal.overflow_sub-dropped
overflow_sub-dropped c = at_within _ (octets c.args.dcf.now c.type_inv.dcf) c.requires _ c.entry_of-stop.ensures

pub overflow_sub-result : goal.overflow_sub-result
overflow_sub-result c = left_within _ (octets c.args.dcf.now c.type_inv.dcf) c.requires _ c.entry_of-stop.ensures

pub returns : goal.returns
returns c = told _ (octets c.args.dcf.now c.type_inv.dcf) c.requires _ c.entry_of-stop.ensures _ c.first_of.ensures
