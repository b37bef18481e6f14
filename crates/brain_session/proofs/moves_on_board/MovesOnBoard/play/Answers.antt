use Rattle.std.proofs.Common.{◌≡◌, true, ap, reverse, ◌∙◌}
use Rattle.brain_session.proofs.Common.{Grid, is_empty, board_after, Moves}
use Rattle.brain_session.proofs.PlayedMoves.{kept-room, kept-pushed}
use Rattle.brain_session.proofs.moves_on_board.MovesOnBoard.play.Goals as goal

pub push_reserved-requires : goal.push_reserved-requires
push_reserved-requires c =
    let empty : is_empty c.self.inside.board c.args.p ≡ true = ap (λ (b : Grid). is_empty b c.args.p) c.self.invariant.now
    ∙ ap (λ (m : Moves). is_empty (board_after m.start m.moves) c.args.p) c.self.view_is ∙ c.requires.empty in
    kept-room c.self.inside.start c.self.inside.board (reverse c.self.inside.moves.items) _ _ c.args.p c.self.invariant empty

pub invariant_of-self : goal.invariant_of-self
invariant_of-self c =
    let empty : is_empty c.self.inside.board c.args.p ≡ true = ap (λ (b : Grid). is_empty b c.args.p) c.self.invariant.now
    ∙ ap (λ (m : Moves). is_empty (board_after m.start m.moves) c.args.p) c.self.view_is ∙ c.requires.empty in
    kept-pushed c.self.inside.start c.self.inside.board c.put.new.self c.self.inside.moves.items c.push_reserved.new.self.items _ _ _ _
    c.args.p c.mover-side.result c.self.invariant empty c.mover-side.ensures.mover c.put.ensures.put c.push_reserved.ensures.items
    c.push_reserved.ensures.len c.push_reserved.ensures.capacity
