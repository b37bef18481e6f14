use Rattle.std.proofs.Common.{◌∙◌}
use Rattle.threat_moves.proofs.FourEnds.{ends-four}
use Rattle.threat_moves.proofs.gains.makes_four.Goals as goal

pub returns : goal.returns
returns g c = record {
  four = c.is_either.ensures.either
      ∙ ends-four g.R.Rule.KIND c.args.board.now c.args.side c.args.axis c.args.gain c.requires.board c.requires.stone
      c.five_end-ahead.result c.five_end-behind.result c.five_end-ahead.ensures.five c.five_end-behind.ensures.five;
}
