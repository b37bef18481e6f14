use Rattle.std.proofs.Common.{◌≡◌, false, sym, ap, ◌∙◌}
use Rattle.game_rules.proofs.Common.{Grid, is_empty, goes_on}
use Rattle.game_rules.proofs.Points.{taken_refused}
use Rattle.four_search.proofs.plan.goes_on.Goals as goal

pub returns-then-not-is_empty-clause-on : goal.returns-then-not-is_empty-clause-on
returns-then-not-is_empty-clause-on g c =
    let b : Grid = g.V.Seen.position c.args.view.now in
    let taken : is_empty b c.args.q ≡ false = ap (λ (w : Grid). is_empty w c.args.q) (sym c.board.ensures.board)
    ∙ sym c.is_empty.ensures.empty ∙ c.if-not-is_empty.true in
    sym (ap goes_on (taken_refused _ _ _ taken))
