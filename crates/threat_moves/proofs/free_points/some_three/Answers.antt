use Rattle.game_rules.specs.declared.Side.TheVariants.{Black}
use Rattle.foul_judge.proofs.MayFoul.{line_by_bits}
use Rattle.threat_moves.proofs.free_points.some_three.Goals as goal

pub returns : goal.returns
returns g c = record {
  three = line_by_bits g.R.Rule.KIND c.args.board.now c.args.p c.args.axis c.three_points.result c.three_points.ensures.bound
      (c.three_points.ensures.points Black c.requires.stone);
}
