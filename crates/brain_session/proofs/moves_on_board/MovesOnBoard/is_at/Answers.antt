use Rattle.std.proofs.Common.{ap, ◌∙◌}
use Rattle.brain_session.proofs.Common.{board_after, same_board, Moves}
use Rattle.brain_session.proofs.PlayedMoves.{same_board-told}
use Rattle.brain_session.proofs.moves_on_board.MovesOnBoard.is_at.Goals as goal

pub returns : goal.returns
returns c = record {
  same = same_board-told c.args.board.now c.self.inside.board c.same.result c.same.ensures.same
      ∙ ap (same_board c.args.board.now) (c.self.invariant.now ∙ ap (λ (m : Moves). board_after m.start m.moves) c.self.view_is);
}
