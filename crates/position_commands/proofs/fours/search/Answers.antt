use Rattle.std.proofs.Common.{◌∙◌}
use Rattle.game_rules.specs.Grid.{Grid}
use Rattle.position_commands.proofs.Searches.{win-says, none-says}
use Rattle.position_commands.proofs.fours.search.Goals as goal

pub returns-in-Win : goal.returns-in-Win
returns-in-Win g c =
    let rule = g.R.Rule.KIND in
    let b : Grid = c.args.position in
    let win = c.in-Win.win in
    let is = rw c.in-Win.is at c.in_ok-win.ensures.found in
    record {
      says = win-says c.table_text.result c.args.depth c.args.nodes rule b win is c.table_text.ensures.status
          (rw (c.board.ensures.board ∙ c.in_ok-win.ensures.same) at c.table_text.ensures.text);
    }

pub returns-in-None : goal.returns-in-None
returns-in-None g c =
    let none = rw c.in-None.is at c.in_ok-win.ensures.found in
    record {
      says = none-says c.none.result c.args.depth c.args.nodes g.R.Rule.KIND c.args.position none.no_win none.fits c.none.ensures.status
          c.none.ensures.text;
    }
