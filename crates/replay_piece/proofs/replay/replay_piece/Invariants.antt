-- `replay_piece::replay::replay_piece` meets its contract. The loop's invariant: what is left of the piece brings the run to where the whole piece brings it,
-- and the manager is neat.
use mathlib.Core.Path.{◌≡◌}
use lib.ListN.{length}
use Rattle.std.specs.Slice.Iter.{chunks_rest, chunks_size}
use Rattle.replay_piece.specs.Piece.{Stand, replayed}
use Rattle.replay_piece.proofs.OneRecord.{standing}
use Rattle.replay_piece.proofs.PieceLeft.{Going}
use Rattle.replay_piece.proofs.replay.replay_piece.Given as goal

abbrev pub invariant-loop-b : goal.invariant-loop-b
invariant-loop-b l =
    let first : Stand = standing l.initial.m l.initial.r l.initial.store l.initial.gather l.initial.output l.initial.text in
    record {
      size : chunks_size l.b-iterator ≡ 32;
      going : Going l.settings first (replayed l.settings (length l.input) first l.input) (length l.input) (chunks_rest l.b-iterator)
          (standing l.m l.r l.store l.gather l.output l.text);
    }
