-- `codec::dcf::dcf_step` meets its contract: each return is one case of `dcf_step`.
use native.Mathlib.Omega.{arith}
use Rattle.codec.proofs.ReadCases.{dcf_end, dcf_no_head, dcf_no_data, dcf_entry}
use Rattle.codec.proofs.dcf.dcf_step.Goals as goal

pub returns-then-left-eq0 : goal.returns-then-left-eq0
returns-then-left-eq0 c = dcf_end _ _ c.if-left-eq0.true

pub returns-then-b-at : goal.returns-then-b-at
returns-then-b-at c = dcf_no_head _ _ c.if-left-eq0.false (omega arith)

pub returns-then-b-start : goal.returns-then-b-start
returns-then-b-start c =
    dcf_no_data _ _ _ c.le32_at-len.ensures c.if-left-eq0.false c.if-b-at-lt7.false c.if-b-start.true

pub returns : goal.returns
returns c =
    dcf_entry _ _ _ _ c.le16_at.ensures c.le32_at-len.ensures
    c.if-left-eq0.false c.if-b-at-lt7.false c.if-b-start.false
