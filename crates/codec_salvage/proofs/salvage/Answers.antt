-- `codec_salvage::salvage` meets its contract: each refusal before a byte is written, or the repaired DCF.
use Rattle.std.proofs.lemmas.Result.{err_from_is_err_and}
use Rattle.laws.proofs.Clauses.{value_output}
use Rattle.codec_salvage.proofs.Answered.{asked, count_says, done, long, no_fit, short}
use Rattle.codec_salvage.proofs.salvage.Goals as goal

pub returns-in_err-count : goal.returns-in_err-count
returns-in_err-count c =
    let p = err_from_is_err_and c.from_residual.result c.from_residual.ensures.1 in
    value_output (rw (p.1, p.2) (short c.args.dcf.now c.args.output.now c.dcf_count.ensures c.in_err-count.was))

pub returns-then-dcf-gt-MOST_SALVAGED : goal.returns-then-dcf-gt-MOST_SALVAGED
returns-then-dcf-gt-MOST_SALVAGED c =
    value_output
    (long c.args.dcf.now c.args.output.now (count_says _ c.dcf_count.ensures c.in_ok-count.was).0 c.if-dcf-gt-MOST_SALVAGED.true)

pub told_of-told-requires : goal.told_of-told-requires
told_of-told-requires c = count_says _ c.dcf_count.ensures c.in_ok-count.was

pub returns-then-output-told : goal.returns-then-output-told
returns-then-output-told c =
    value_output
    (no_fit c.args.dcf.now c.args.output.now (count_says _ c.dcf_count.ensures c.in_ok-count.was).0 c.if-dcf-gt-MOST_SALVAGED.false
    c.told_of-told.ensures c.if-output-told.true)

pub put_repaired-requires : goal.put_repaired-requires
put_repaired-requires c =
    asked c.args.dcf.now c.args.output.now (count_says _ c.dcf_count.ensures c.in_ok-count.was).0 c.if-dcf-gt-MOST_SALVAGED.false
    c.told_of-told.ensures c.if-output-told.false

pub returns : goal.returns
returns c =
    value_output
    (done c.args.dcf.now c.args.output.now (count_says _ c.dcf_count.ensures c.in_ok-count.was).0 c.if-dcf-gt-MOST_SALVAGED.false
    c.told_of-told.ensures _ c.if-output-told.false c.put_repaired.ensures)
