use Rattle.std.proofs.Common.{◌≡◌, ap, sym, ◌∙◌}
use Rattle.brain_session.proofs.Common.{Place, board_in, place_of, Grid}
use Rattle.brain_session.proofs.SessionBoards.{board_in-place, width-after}
use Rattle.brain_session.proofs.session_board.SessionBoard.width.Goals as goal

pub returns-clause-width : goal.returns-clause-width
returns-clause-width c =
    let m = c.self.inside.played in
    let view : place_of m c.self.inside.game ≡ c.args.self.now = c.self.view_is in
    c.width.ensures.width ∙ ap (λ (b : Grid). b.width) c.board.ensures.board ∙ width-after m.start m.moves
    ∙ ap (λ (b : Grid). b.width) (sym (board_in-place m c.self.inside.game)) ∙ ap (λ (w : Place). (board_in w).width) view
