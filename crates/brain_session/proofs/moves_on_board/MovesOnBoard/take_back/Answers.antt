use Rattle.std.proofs.Common.{reverse}
use Rattle.brain_session.proofs.PlayedMoves.{kept-stone, kept-popped, kept-left}
use Rattle.brain_session.proofs.moves_on_board.MovesOnBoard.take_back.Goals as goal

pub lift-requires : goal.lift-requires
lift-requires c =
    let kept = kept-popped c.self.inside.start c.self.inside.board c.self.inside.moves.items c.pop.new.self.items _ _ c.in-Some.p
    c.in-Some.ensures.items c.self.invariant in
    record { stone = kept-stone c.self.inside.start c.self.inside.board (reverse c.pop.new.self.items) _ _ c.in-Some.p kept }

pub invariant_of-self : goal.invariant_of-self
invariant_of-self c =
    let kept = kept-popped c.self.inside.start c.self.inside.board c.self.inside.moves.items c.pop.new.self.items _ _ c.in-Some.p
    c.in-Some.ensures.items c.self.invariant in
    kept-left c.self.inside.start c.self.inside.board c.lift.new.self (reverse c.pop.new.self.items) _ _ _ _ c.in-Some.p kept
    c.lift.ensures.lift c.in-Some.ensures.cases c.in-Some.ensures.capacity
