use Rattle.std.proofs.Common.{◌≡◌, ap, sym, ◌∙◌}
use Rattle.brain_session.proofs.Common.{Place, board_in, place_of, Grid}
use Rattle.brain_session.proofs.SessionBoards.{board_in-place, height-after}
use Rattle.brain_session.proofs.session_board.SessionBoard.height.Goals as goal

pub returns-clause-height : goal.returns-clause-height
returns-clause-height c =
    let m = c.self.inside.played in
    let view : place_of m c.self.inside.game ≡ c.args.self.now = c.self.view_is in
    c.height.ensures.height ∙ ap (λ (b : Grid). b.height) c.board.ensures.board ∙ height-after m.start m.moves
    ∙ ap (λ (b : Grid). b.height) (sym (board_in-place m c.self.inside.game)) ∙ ap (λ (w : Place). (board_in w).height) view
