use Rattle.std.proofs.Common.{sym, ◌∙◌}
use Rattle.game_rules.specs.Grid.{Grid}
use Rattle.four_search.specs.FewestWins.{IsFoundTable}
use Rattle.solve_command.proofs.Solutions.{first-says, win-found, win-missed}
use Rattle.solve_command.proofs.solve.by_fours.Goals as goal

pub returns-in-Some : goal.returns-in-Some
returns-in-Some g c =
    let rule = g.R.Rule.KIND in
    let b : Grid = c.args.position in
    let win = c.in-Some.win in
    let is : IsFoundTable rule c.args.depth c.args.nodes b win =
    win-found rule c.args.depth c.args.nodes b c.in_ok-fewest_win.field-0 win c.in_ok-fewest_win.ensures.found
    (sym c.win.ensures.win ∙ c.in-Some.is) in
    record {
      says = first-says c.table_text.result c.args.depth c.args.nodes rule b win is c.table_text.ensures.status
          (rw (c.board.ensures.board ∙ c.in_ok-fewest_win.ensures.same) at c.table_text.ensures.text);
    }

pub by_line-requires-clause-no_fours : goal.by_line-requires-clause-no_fours
by_line-requires-clause-no_fours g c =
    let rule = g.R.Rule.KIND in
    let missed = win-missed rule c.args.depth c.args.nodes c.args.position c.in_ok-fewest_win.field-0 c.in_ok-fewest_win.ensures.found
    (sym c.win.ensures.win ∙ c.in-None.is) in
    rw c.in_ok-fewest_win.ensures.same missed
