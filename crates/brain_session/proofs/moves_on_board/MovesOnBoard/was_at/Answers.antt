use Rattle.std.proofs.Common.{◌≡◌, ap, sym, reverse, ◌∙◌, Some}
use Rattle.brain_session.proofs.Common.{board_after, same_board, last_move, Moves, without_last}
use Rattle.brain_session.proofs.PlayedMoves.{last-cons, kept-as, kept-stone, kept-lift, kept-again, same_board-told}
use Rattle.brain_session.proofs.moves_on_board.MovesOnBoard.was_at.Goals as goal

pub lift-requires : goal.lift-requires
lift-requires c =
    let moves = reverse c.self.inside.moves.items in
    let is_last : last_move moves ≡ Some c.in-Some.last =
    ap (λ (m : Moves). last_move m.moves) c.self.view_is ∙ sym c.in-Some.ensures.last in
    let kept = kept-as c.self.inside.start c.self.inside.board moves _ _ _ (last-cons moves c.in-Some.last is_last) c.self.invariant in
    record { stone = kept-stone c.self.inside.start c.self.inside.board (without_last moves) _ _ c.in-Some.last kept }

pub invariant_of-self : goal.invariant_of-self
invariant_of-self c =
    let moves = reverse c.self.inside.moves.items in
    let is_last : last_move moves ≡ Some c.in-Some.last =
    ap (λ (m : Moves). last_move m.moves) c.self.view_is ∙ sym c.in-Some.ensures.last in
    let kept = kept-as c.self.inside.start c.self.inside.board moves _ _ _ (last-cons moves c.in-Some.last is_last) c.self.invariant in
    let again = kept-again c.self.inside.start c.self.inside.board c.lift.new.self c.put.new.self (without_last moves) _ _ c.in-Some.last
    c.mover-side.result kept c.lift.ensures.lift c.mover-side.ensures.mover c.put.ensures.put in
    rw again c.self.invariant

pub returns-clause-same : goal.returns-clause-same
returns-clause-same c =
    let moves = reverse c.self.inside.moves.items in
    let is_last : last_move moves ≡ Some c.in-Some.last =
    ap (λ (m : Moves). last_move m.moves) c.self.view_is ∙ sym c.in-Some.ensures.last in
    let kept = kept-as c.self.inside.start c.self.inside.board moves _ _ _ (last-cons moves c.in-Some.last is_last) c.self.invariant in
    let lifted = kept-lift c.self.inside.start c.self.inside.board (without_last moves) _ _ c.in-Some.last kept in
    same_board-told c.args.board.now c.lift.new.self c.same-same.result c.same-same.ensures.same ∙ ap (same_board c.args.board.now)
    (c.lift.ensures.lift ∙ lifted ∙ ap (λ (m : Moves). board_after m.start (without_last m.moves)) c.self.view_is)
