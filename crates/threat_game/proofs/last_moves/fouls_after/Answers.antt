use Rattle.std.proofs.Common.{ap, ◌∙◌}
use Rattle.game_rules.specs.Play.{after}
use Rattle.threat_game.specs.Attacks.{is_fouled}
use Rattle.threat_game.proofs.AttackLaws.{fouled-is}
use Rattle.threat_game.proofs.last_moves.fouls_after.Goals as goal

pub returns-clause-fouls : goal.returns-clause-fouls
returns-clause-fouls g c =
    c.is_fouled.ensures.fouled ∙ ap is_fouled c.best_reply_to.ensures.best
    ∙ fouled-is g.R.Rule.KIND (after (g.V.Seen.position c.args.view.now) c.args.p)
