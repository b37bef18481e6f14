use Rattle.std.proofs.Common.{ap, sym, ◌∙◌}
use Rattle.game_rules.specs.Grid.{Grid}
use Rattle.threat_moves.specs.ThreeMoves.{is_three_move}
use Rattle.threat_game.proofs.AttackLaws.{four-threat, three-threat}
use Rattle.threat_game.proofs.attacks.is_threat_move.Goals as goal

pub returns-then-is_four_move-clause-threat : goal.returns-then-is_four_move-clause-threat
returns-then-is_four_move-clause-threat g c =
    four-threat g.R.Rule.KIND (g.V.Seen.position c.args.view.now) c.args.p (sym c.is_four_move.ensures.four ∙ c.if-is_four_move.true)

pub returns-clause-threat : goal.returns-clause-threat
returns-clause-threat g c =
    c.is_three_move.ensures.three
    ∙ ap (λ (b : Grid). is_three_move g.R.Rule.KIND b c.args.p) c.is_four_move.ensures.same
    ∙ three-threat g.R.Rule.KIND (g.V.Seen.position c.args.view.now) c.args.p (sym c.is_four_move.ensures.four ∙ c.if-is_four_move.false)
