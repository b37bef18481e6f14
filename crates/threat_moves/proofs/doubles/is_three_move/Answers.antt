use Rattle.std.proofs.Common.{sym, ap, ◌∙◌}
use Rattle.game_rules.proofs.Common.{Grid, is_empty, mover}
use Rattle.game_rules.specs.declared.Side.{Side}
use Rattle.game_rules.proofs.Positions.{GoesOn-empty}
use Rattle.threat_moves.specs.ThreeMoves.{makes_double_point}
use Rattle.threat_moves.proofs.GainLaws.{goes_on-three}
use Rattle.threat_moves.proofs.doubles.is_three_move.Goals as goal

pub makes_double_point-requires : goal.makes_double_point-requires
makes_double_point-requires g c =
    record {
      empty = ap (λ (b : Grid). is_empty b c.args.p) c.requires.copy
          ∙ GoesOn-empty g.R.Rule.KIND (g.V.Seen.position c.args.view.now) c.args.p (sym c.in-GoesOn.ensures.outcome);
    }

pub returns-in-GoesOn-clause-three : goal.returns-in-GoesOn-clause-three
returns-in-GoesOn-clause-three g c =
    c.makes_double_point.ensures.double
    ∙ ap (λ (b : Grid). makes_double_point g.R.Rule.KIND b c.side-side.result c.args.p) c.requires.copy
    ∙ ap (λ (t : Side). makes_double_point g.R.Rule.KIND (g.V.Seen.position c.args.view.now) t c.args.p)
    (c.side-side.ensures.side ∙ ap mover c.outcome.ensures.same)
    ∙ sym (goes_on-three g.R.Rule.KIND (g.V.Seen.position c.args.view.now) c.args.p (sym c.in-GoesOn.ensures.outcome))
