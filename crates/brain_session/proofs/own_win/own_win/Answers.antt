use Rattle.std.proofs.Common.{◌∙◌, sym, subst}
use Rattle.brain_session.specs.Kept.{IsFound}
use Rattle.brain_session.proofs.OwnWins.{found-on}
use Rattle.brain_session.proofs.own_win.own_win.Goals as goal

pub returns : goal.returns
returns g c =
    let here = c.over-view.ensures.position ∙ c.new-position.ensures.position ∙ c.in_ok-copy.ensures.copy in
    record {
      found = subst (IsFound g.R.Rule.KIND c.args.board.now) (sym c.win.ensures.win)
          (found-on g.R.Rule.KIND c.args.board.now c.over-view.result here c.in_ok-found.found c.in_ok-found.ensures.found);
    }
