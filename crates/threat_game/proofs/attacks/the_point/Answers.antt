use Rattle.std.proofs.Common.{◌||◌, ap, ◌∙◌}
use Rattle.std.proofs.Math.Bool.{or-false}
use Rattle.game_rules.proofs.Common.{is_same_point}
use Rattle.threat_game.proofs.attacks.the_point.Goals as goal

pub returns : goal.returns
returns c = record {
  point = λ q. c.add.ensures.more q ∙ ap (λ r. is_same_point q c.args.p || r) (c.empty-points.ensures.none q)
      ∙ or-false (is_same_point q c.args.p);
}
