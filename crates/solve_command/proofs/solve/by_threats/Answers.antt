use Rattle.std.proofs.Common.{inr, ◌∙◌}
use Rattle.command_base.specs.Positions.{file_at}
use Rattle.solve_command.proofs.Solutions.{threats-says, unwon-says, undecided-says, full-says}
use Rattle.solve_command.proofs.solve.by_threats.Goals as goal

pub win_text-requires : goal.win_text-requires
win_text-requires g c =
    let rule = g.R.Rule.KIND in
    let is = rw c.in-Win.is at c.in_ok-compiler.ensures.told in
    record {
      win = (
        c.args.depth,
        c.requires.limits.1,
        rw (c.into_position.ensures.position ∙ c.searched_in_turn.ensures.same) is.0.written,
      );
    }

pub returns-in-Win : goal.returns-in-Win
returns-in-Win g c =
    let rule = g.R.Rule.KIND in
    let p = c.args.position in
    let is = rw c.in-Win.is at c.in_ok-compiler.ensures.told in
    record {
      says = threats-says c.win_text.result c.args.depth c.args.nodes rule p c.into_position.result
          (c.into_position.ensures.position ∙ c.searched_in_turn.ensures.same) c.in-Win.compiler c.in-Win.win is c.requires.left
          c.win_text.ensures.status c.win_text.ensures.shown;
    }

pub returns-in-None : goal.returns-in-None
returns-in-None g c =
    let rule = g.R.Rule.KIND in
    let none = rw c.in-None.is at c.in_ok-compiler.ensures.told in
    record {
      says = unwon-says c.none.result c.args.depth c.args.nodes (file_at rule c.args.position) c.requires.left none c.none.ensures.status
          c.none.ensures.text;
    }

pub returns-in-Spent : goal.returns-in-Spent
returns-in-Spent g c =
    let rule = g.R.Rule.KIND in
    let more = rw c.in-Spent.is at c.in_ok-compiler.ensures.told in
    record {
      says = undecided-says c.spent.result c.args.depth c.args.nodes (file_at rule c.args.position) c.requires.left more
          c.spent.ensures.status c.spent.ensures.text;
    }

pub returns-in-Full : goal.returns-in-Full
returns-in-Full g c =
    let rule = g.R.Rule.KIND in
    let above = rw c.in-Full.is at c.in_ok-compiler.ensures.told in
    record {
      says = full-says c.full.result c.args.depth c.args.nodes (file_at rule c.args.position) c.requires.left.no_fours
          (inr (c.requires.left, above)) c.full.ensures.status c.full.ensures.text;
    }
