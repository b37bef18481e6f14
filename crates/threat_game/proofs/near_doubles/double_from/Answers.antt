use Rattle.std.proofs.Common.{◌&&◌, ap, sym, ◌∙◌}
use Rattle.game_rules.specs.Games.{is_double_point}
use Rattle.threat_game.proofs.NearDoubles.{taken-no_double}
use Rattle.threat_game.proofs.near_doubles.double_from.Goals as goal

pub returns-then-not-is_empty-clause-double : goal.returns-then-not-is_empty-clause-double
returns-then-not-is_empty-clause-double g c =
    taken-no_double g.R.Rule.KIND c.args.board.now c.args.side c.args.axis c.args.q
    (sym c.is_empty.ensures.empty ∙ c.if-not-is_empty.true)

pub returns-then-not-may_double-clause-double : goal.returns-then-not-may_double-clause-double
returns-then-not-may_double-clause-double g c = sym (c.may_double.ensures.none c.if-not-may_double.true)

pub returns-clause-double : goal.returns-clause-double
returns-clause-double g c =
    c.is_new_double_point.ensures.double
    ∙ sym (ap (λ r. r && is_double_point g.R.Rule.KIND c.args.board.now c.args.side c.args.q)
    (c.may_double.ensures.made c.if-not-may_double.false))
