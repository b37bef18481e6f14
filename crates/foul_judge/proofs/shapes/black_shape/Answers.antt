use Rattle.std.proofs.Common.{sym, ◌∙◌, ◌<◌}
use Rattle.game_rules.specs.declared.Side.TheVariants.{Black}
use Rattle.row_shapes.specs.Reach.{stones_in_reach}
use Rattle.foul_judge.proofs.FoulShapes.{made_is, blank_shape}
use Rattle.foul_judge.proofs.shapes.black_shape.Goals as goal

pub returns-then-reach-lt2 : goal.returns-then-reach-lt2
returns-then-reach-lt2 g c =
    let few : stones_in_reach c.args.board.now Black c.args.axis c.args.p < 2 = let e = c.requires.reach in rw e at c.if-reach-lt2.true in
    record {
      shape = blank_shape g.R.Rule.KIND c.args.board.now c.args.p (sym g.met.R.Rule.fouls ∙ c.requires.fouls) c.width.ensures.board
          c.requires.empty c.args.axis few;
    }

pub returns-else-reach-lt2 : goal.returns-else-reach-lt2
returns-else-reach-lt2 g c = record {
  shape = made_is g.R.Rule.KIND c.args.board.now c.args.p (sym g.met.R.Rule.fouls ∙ c.requires.fouls) c.args.axis c.shape_at.result
      c.shape_at.ensures.made;
}
