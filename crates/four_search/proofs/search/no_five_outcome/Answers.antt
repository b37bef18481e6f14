use Rattle.std.proofs.Common.{ap, sym, ◌∙◌}
use Rattle.game_rules.proofs.Common.{empties_of, has_fouls}
use Rattle.game_rules.proofs.Outcomes.{outcome-last, outcome-more}
use Rattle.four_search.proofs.search.no_five_outcome.Goals as goal

pub returns-then-empties-eq1-clause-outcome : goal.returns-then-empties-eq1-clause-outcome
returns-then-empties-eq1-clause-outcome g c =
    let calm = ap (has_fouls g.R.Rule.KIND) (sym c.side.ensures.side) ∙ sym c.if-has_fouls.ensures.fouls in
    outcome-last _ _ _ c.requires.empty c.requires.none calm _ (c.empties.ensures.empties ∙ ap empties_of c.board.ensures.board)
    c.if-empties-eq1.true

pub returns-else-empties-eq1-clause-outcome : goal.returns-else-empties-eq1-clause-outcome
returns-else-empties-eq1-clause-outcome g c =
    let calm = ap (has_fouls g.R.Rule.KIND) (sym c.side.ensures.side) ∙ sym c.if-has_fouls.ensures.fouls in
    outcome-more _ _ _ c.requires.empty c.requires.none calm _ (c.empties.ensures.empties ∙ ap empties_of c.board.ensures.board)
    c.if-empties-eq1.false
