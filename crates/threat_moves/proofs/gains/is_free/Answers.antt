use Rattle.std.proofs.Common.{sym, ◌∙◌}
use Rattle.game_rules.specs.Grid.{along}
use Rattle.stone_board.proofs.Looks.{kept-Some}
use Rattle.threat_moves.proofs.GainLaws.{no_straight, straight-gain}
use Rattle.threat_moves.proofs.gains.is_free.Goals as goal

pub returns-in-None-clause-straight : goal.returns-in-None-clause-straight
returns-in-None-clause-straight g c =
    sym (no_straight g.R.Rule.KIND c.args.board.now c.args.side c.args.axis c.args.gain (along c.args.axis c.args.gain c.args.ahead 5)
    (sym c.along.ensures.along ∙ c.in-None.is))

pub returns-in-Some-clause-straight : goal.returns-in-Some-clause-straight
returns-in-Some-clause-straight g c =
    let here = kept-Some c.args.board.now (along c.args.axis c.args.gain c.args.ahead 5) c.in-Some.q
    (sym c.along.ensures.along ∙ c.in-Some.is) in
    c.is_gain.ensures.gain ∙ sym
    (straight-gain g.R.Rule.KIND c.args.board.now c.args.side c.args.axis c.args.gain _ c.in-Some.q here.0 c.requires.three)
