-- `codec_reader::entry_of` meets its contract: each step leads to the next entry, and where none is found more steps lead nowhere else.
use Rattle.std.proofs.Common.{arith, rules}
use Rattle.codec_reader.proofs.Places.{goes_on, stays}
use Rattle.codec_reader.proofs.entry_of.Goals as goal

pub returns-in_default : goal.returns-in_default
returns-in_default c = stays _ c.loop-i._i c.args.n _ c.loop-i.invariant (λ d. search rules) (omega arith)

pub loop-i-preserved : goal.loop-i-preserved
loop-i-preserved c = goes_on _ c.loop-i._i _ _ c.loop-i.invariant c.entry_at-step-in-loop-i.ensures
