use Rattle.std.proofs.Common.{◌+◌, true, false, sym, ◌∙◌}
use Rattle.game_rules.specs.Ways.{towards}
use Rattle.stone_board.proofs.Looks.{kept-Some}
use Rattle.row_shapes.proofs.NewFives.{end_by}
use Rattle.row_shapes.proofs.new_fives.end_five.Goals as goal

pub returns-then-joins_to_win : goal.returns-then-joins_to_win
returns-then-joins_to_win g c =
    let here = kept-Some c.args.board.now (towards c.args.way c.args.row.axis c.args.row.point (1 + c.args.near)) c.in-Some.q
    (sym c.step_towards.ensures.step ∙ c.in-Some.is) in
    record {
      five = end_by c.args.board.now c.args.row.side c.args.row.point c.joins_to_win.ensures.board c.requires.empty g.R.Rule.KIND c.args.way
          c.args.row.axis c.in-Some.q c.args.near c.args.far c.requires.near c.requires.far here.0 c.joins_to_win.result true
          c.joins_to_win.ensures.wins c.if-joins_to_win.true;
    }

pub returns-else-joins_to_win : goal.returns-else-joins_to_win
returns-else-joins_to_win g c =
    let here = kept-Some c.args.board.now (towards c.args.way c.args.row.axis c.args.row.point (1 + c.args.near)) c.in-Some.q
    (sym c.step_towards.ensures.step ∙ c.in-Some.is) in
    record {
      five = end_by c.args.board.now c.args.row.side c.args.row.point c.joins_to_win.ensures.board c.requires.empty g.R.Rule.KIND c.args.way
          c.args.row.axis c.in-Some.q c.args.near c.args.far c.requires.near c.requires.far here.0 c.joins_to_win.result false
          c.joins_to_win.ensures.wins c.if-joins_to_win.false;
    }
