use Rattle.std.proofs.Common.{◌&&◌, sym, ap, ◌∙◌}
use Rattle.game_rules.proofs.Common.{outcome, goes_on}
use Rattle.threat_game.proofs.escapes.counters.Goals as goal

pub returns-then-not-takes-clause-counters : goal.returns-then-not-takes-clause-counters
returns-then-not-takes-clause-counters g c =
    sym (ap (λ r. r && goes_on (outcome g.R.Rule.KIND (g.V.Seen.position c.args.view.now) c.args.p))
    (sym c.takes.ensures.takes ∙ c.if-not-takes.true))

pub returns-clause-counters : goal.returns-clause-counters
returns-clause-counters g c =
    c.goes_on.ensures.on ∙ sym (ap (λ r. r && goes_on (outcome g.R.Rule.KIND (g.V.Seen.position c.args.view.now) c.args.p))
    (sym c.takes.ensures.takes ∙ c.if-not-takes.false))
