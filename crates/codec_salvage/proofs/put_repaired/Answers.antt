use Rattle.codec_salvage.proofs.Answered.{four_ahead, put_both}
use Rattle.codec_salvage.proofs.Told.{octets}
use Rattle.codec_salvage.proofs.put_repaired.Goals as goal

pub overflow_sub-end : goal.overflow_sub-end
overflow_sub-end c = four_ahead c.args.dcf.now c.args.output.now (octets _ c.type_inv.dcf) c.requires

pub returns : goal.returns
returns c =
    put_both c.args.dcf.now c.args.output.now (octets _ c.type_inv.dcf) c.requires
    c.octets32.ensures c.put.ensures.buffer_after c.part.ensures c.put-2.ensures.buffer_after
