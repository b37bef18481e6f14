use Rattle.std.proofs.Common.{sym, ◌∙◌}
use Rattle.game_rules.proofs.Common.{is_same_point, outcome, goes_on}
use Rattle.threat_game.proofs.FreeMoves.{other-same, other-apart}
use Rattle.threat_game.proofs.doubles.is_other_reply.Goals as goal

pub returns-then-is-clause-reply : goal.returns-then-is-clause-reply
returns-then-is-clause-reply g c =
    other-same (goes_on (outcome g.R.Rule.KIND (g.V.Seen.position c.args.view.now) c.args.q)) (is_same_point c.args.q c.args.first)
    (sym c.is.ensures.same ∙ c.if-is.true)

pub returns-clause-reply : goal.returns-clause-reply
returns-clause-reply g c =
    c.goes_on.ensures.on
    ∙ other-apart (goes_on (outcome g.R.Rule.KIND (g.V.Seen.position c.args.view.now) c.args.q)) (is_same_point c.args.q c.args.first)
    (sym c.is.ensures.same ∙ c.if-is.false)
