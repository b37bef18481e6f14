use Rattle.std.proofs.Common.{ap, ◌∙◌}
use Rattle.game_rules.proofs.Common.{Grid, mover, after}
use Rattle.threat_game.proofs.Common.{is_some_point}
use Rattle.threat_game.proofs.DoubleLaws.{some-five}
use Rattle.threat_game.proofs.replies.makes_five.Goals as goal

pub returns : goal.returns
returns g c =
    let b : Grid = g.V.Seen.position c.args.view.now in
    record {
      five = c.is_some_point.ensures.some ∙ ap is_some_point c.fives_by.ensures.made ∙ some-five g.R.Rule.KIND (after b c.args.q) (mover b);
    }
