-- The loop's invariant: `step` is that to the entry that the loop has come to.
use Rattle.std.proofs.Common.{◌≡◌}
use Rattle.codec_reader.specs.Place.{entry_of}
use Rattle.codec_reader.proofs.entry_of.Given as goal

abbrev pub invariant-loop-i : goal.invariant-loop-i
invariant-loop-i l = l.step ≡ entry_of l.dcf l._i
