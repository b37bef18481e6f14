use Rattle.std.proofs.Common.{sym, ap, ◌∙◌}
use Rattle.row_shapes.specs.FivePoints.{is_several}
use Rattle.threat_moves.proofs.GainLaws.{taken-no_gain, no_gain-double, few-double, several-double}
use Rattle.threat_moves.proofs.doubles.is_new_double_point.Goals as goal

pub returns-then-not-is_empty-clause-double : goal.returns-then-not-is_empty-clause-double
returns-then-not-is_empty-clause-double g c =
    sym (no_gain-double g.R.Rule.KIND c.args.board.now c.args.side c.args.p
    (taken-no_gain g.R.Rule.KIND c.args.board.now c.args.side c.args.p (sym c.is_empty.ensures.empty ∙ c.if-not-is_empty.true)))

pub returns-then-not-is_several-clause-double : goal.returns-then-not-is_several-clause-double
returns-then-not-is_several-clause-double g c =
    sym (few-double g.R.Rule.KIND c.args.board.now c.args.side c.args.p
    (ap is_several (sym c.fives_made.ensures.made) ∙ sym c.is_several.ensures.several ∙ c.if-not-is_several.true))

pub returns-clause-double : goal.returns-clause-double
returns-clause-double g c =
    c.is_gain.ensures.gain
    ∙ sym (several-double g.R.Rule.KIND c.args.board.now c.args.side c.args.p
    (ap is_several (sym c.fives_made.ensures.made) ∙ sym c.is_several.ensures.several ∙ c.if-not-is_several.false))
