use Rattle.std.proofs.Common.{ap, ◌∙◌}
use Rattle.game_rules.specs.Grid.{Grid}
use Rattle.threat_game.specs.Replies.{has_reply_beside}
use Rattle.threat_game.proofs.FreeMoves.{reply-at}
use Rattle.threat_game.proofs.doubles.replies_by.Goals as goal

pub returns-clause-at : goal.returns-clause-at
returns-clause-at g c = c.goes_on-at.ensures.on ∙ reply-at g.R.Rule.KIND (g.V.Seen.position c.args.view.now) c.args.first

pub returns-clause-beside : goal.returns-clause-beside
returns-clause-beside g c =
    c.goes_on_beside-beside.ensures.beside ∙ ap (λ (b : Grid). has_reply_beside g.R.Rule.KIND b c.args.first) c.goes_on-at.ensures.same

pub returns-clause-same : goal.returns-clause-same
returns-clause-same g c = c.goes_on_beside-beside.ensures.same ∙ c.goes_on-at.ensures.same
