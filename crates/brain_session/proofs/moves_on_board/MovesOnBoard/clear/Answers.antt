use Rattle.std.proofs.Common.{reverse}
use Rattle.brain_session.proofs.PlayedMoves.{kept-bare}
use Rattle.brain_session.proofs.moves_on_board.MovesOnBoard.clear.Goals as goal

pub invariant_of-self : goal.invariant_of-self
invariant_of-self c =
    kept-bare c.self.inside.start c.self.inside.board c.clear.new.self c.clear-2.new.self (reverse c.self.inside.moves.items)
    c.clear-3.new.self.items _ _ _ _ c.self.invariant c.clear.ensures.empty c.clear-2.ensures.empty c.clear-3.ensures.items
    c.clear-3.ensures.len c.clear-3.ensures.capacity
