-- `replay_piece::replay::value_after` meets its contract: the last one where nothing ended, and else by the answer.
use mathlib.Core.Path.{refl}
use Rattle.laws.proofs.Picks.{is, is_not}
use Rattle.replay_piece.specs.Piece.{value_after}
use Rattle.replay_piece.proofs.replay.value_after.Goals as goal

pub returns-then-ended-eq0 : goal.returns-then-ended-eq0
unfolding value_after
returns-then-ended-eq0 c = is _ _ _ _ c.if-ended-eq0.true refl

pub returns : goal.returns
unfolding value_after
returns c = is_not _ _ _ _ c.if-ended-eq0.false c.last_by.ensures
