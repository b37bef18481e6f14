use Rattle.std.proofs.Common.{◌≡◌, false, ap, sym, subst, ◌∙◌, Option}
use Rattle.brain_session.proofs.Common.{Point, Error, BadMove, Says, Place, last_move, board_in, placed, takeback_row, IsPlace, IsPointOn}
use Rattle.brain_session.proofs.Common.{Takes, are_one, place_of}
use Rattle.brain_session.proofs.SessionBoards.{takeback-bad}
use Rattle.brain_session.proofs.session_board.SessionBoard.take_back.Goals as goal

pub returns-then-not-are_one-clause-row : goal.returns-then-not-are_one-clause-row
returns-then-not-are_one-clause-row c = λ s p here unread place point.
    let m = c.self.inside.played in
    let o = c.self.inside.game in
    let view : place_of m o ≡ c.args.self.now = c.self.view_is in
    let e : are_one (last_move m.moves) c.args.at ≡ false =
    ap (λ (x : Option Point). are_one x c.args.at) (sym c.last.ensures.last) ∙ sym c.are_one.ensures.one ∙ c.if-not-are_one.true in
    subst (λ (w : Place). s.place ≡ w → IsPlace s.held w → IsPointOn (board_in w) p c.args.at
    → Takes (takeback_row s w p) s (Says (Error BadMove)) (placed s w)) view
    (λ a b d. takeback-bad m o s p c.args.at a unread b d e) here place point
