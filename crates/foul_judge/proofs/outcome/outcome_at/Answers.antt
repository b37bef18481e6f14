use Rattle.std.proofs.Common.{◌∙◌, sym, rules}
use Rattle.foul_judge.proofs.FoulShapes.{by_turn, black-fouls}
use Rattle.foul_judge.proofs.outcome.outcome_at.Goals as goal

pub black_outcome-requires-clause-fouls : goal.black_outcome-requires-clause-fouls
black_outcome-requires-clause-fouls g c =
    g.met.R.Rule.fouls ∙ black-fouls g.R.Rule.KIND c.mover-side.result (sym c.has_fouls.ensures.fouls ∙ c.if-has_fouls.true)

pub returns-then-has_fouls-clause-outcome : goal.returns-then-has_fouls-clause-outcome
returns-then-has_fouls-clause-outcome g c =
    c.black_outcome.ensures.outcome
    ∙ sym (by_turn g.R.Rule.KIND c.args.board.now c.args.p c.mover-side.result c.mover-side.ensures.mover
    (sym c.has_fouls.ensures.fouls ∙ c.if-has_fouls.true) (search rules))
