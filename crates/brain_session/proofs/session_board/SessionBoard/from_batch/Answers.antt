use Rattle.std.proofs.Common.{ap, sym, ◌∙◌}
use Rattle.brain_session.proofs.Common.{IsBoard, mover, SessionGame, board_after, empty_board, Moves}
use Rattle.brain_session.proofs.SessionBoards.{board-sized}
use Rattle.brain_session.proofs.BatchGames.{batch-to_move}
use Rattle.brain_session.proofs.session_board.SessionBoard.from_batch.Goals as goal

pub make_move-requires-clause-to_move : goal.make_move-requires-clause-to_move
make_move-requires-clause-to_move c =
    let w = c.args.width in
    let h = c.args.height in
    let board : IsBoard (empty_board w h) = board-sized w h c.requires.wide c.requires.width_fits c.requires.high c.requires.height_fits in
    ap (λ (x : Moves). mover (board_after x.start x.moves)) c.in_ok-played.ensures.begun
    ∙ batch-to_move c.args.batch.now c.in-Some.brain w h c.in_ok-board.board c.requires.read board c.requires.fit c.in-Some.ensures.colour
    c.in_ok-board.ensures.board ∙ ap (λ (x : SessionGame). x.brain) (sym c.new-game.ensures.begun)
