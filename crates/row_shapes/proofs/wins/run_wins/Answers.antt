use Rattle.game_rules.proofs.Boards.{run_of-put, is_empty-on}
use Rattle.row_shapes.proofs.wins.run_wins.Goals as goal

pub returns : goal.returns
returns g c =
    let run = run_of-put c.args.board.now c.args.side c.args.p
    (is_empty-on c.args.board.now c.args.p c.requires.empty) c.stones_towards-ahead.ensures.board c.args.axis in
    record { wins = rw (c.requires.empty, run) (cc) }
