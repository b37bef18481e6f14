use Rattle.std.proofs.Common.{◌≡◌, true, sym, ◌∙◌}
use Rattle.game_rules.specs.Grid.{is_empty}
use Rattle.game_rules.proofs.Boards.{run_of-put, is_empty-on}
use Rattle.threat_moves.proofs.gains.wins_on.Goals as goal

pub returns-then-is_empty : goal.returns-then-is_empty
returns-then-is_empty g c =
    let empty : is_empty c.args.board.now c.args.p ≡ true = sym c.is_empty.ensures.empty ∙ c.if-is_empty.true in
    let run = run_of-put c.args.board.now c.args.side c.args.p (is_empty-on c.args.board.now c.args.p empty) c.is_empty.ensures.board
    c.args.axis in
    record { wins = rw (empty, run) (cc) }
