use Rattle.std.proofs.Common.{◌≡◌, true, sym, ap, ◌∙◌, cond, None, rules}
use Rattle.game_rules.proofs.Common.{black_foul}
use Rattle.foul_judge.specs.BlackMoves.{foul_in}
use Rattle.foul_judge.proofs.FoulShapes.{foul_in-outcome}
use Rattle.foul_judge.proofs.foul.foul_at.Goals as goal

pub returns-then-BLACK_FOULS-clause-foul : goal.returns-then-BLACK_FOULS-clause-foul
returns-then-BLACK_FOULS-clause-foul g c =
    let black : g.R.Rule.BLACK_FOULS ≡ true = search rules in
    let fouls = sym g.met.R.Rule.fouls ∙ black in
    c.foul_in.ensures.foul ∙ ap foul_in c.black_outcome.ensures.outcome
    ∙ foul_in-outcome g.R.Rule.KIND c.args.board.now c.args.p fouls c.black_outcome.ensures.board c.requires.empty
    ∙ sym (ap (λ r. cond r (black_foul g.R.Rule.KIND c.args.board.now c.args.p) None) fouls)
