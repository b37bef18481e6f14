use Rattle.std.proofs.Common.{ap, sym, ◌∙◌}
use Rattle.game_rules.proofs.Common.{Grid, outcome, after}
use Rattle.game_rules.proofs.Outcomes.{goes_on-is}
use Rattle.threat_moves.specs.OneBlock.{all_foul}
use Rattle.threat_game.specs.ThreatGame.{is_threat_move}
use Rattle.threat_game.proofs.AttackLaws.{fouled-last, unfouled-last, stopped-last}
use Rattle.threat_game.proofs.last_moves.is_last_move.Goals as goal

pub returns-then-not-goes_on-clause-last : goal.returns-then-not-goes_on-clause-last
returns-then-not-goes_on-clause-last g c =
    stopped-last g.R.Rule.KIND (g.V.Seen.position c.args.view.now) c.args.p (sym c.goes_on.ensures.on ∙ c.if-not-goes_on.true)

pub fouls_after-requires : goal.fouls_after-requires
fouls_after-requires g c =
    let b : Grid = g.V.Seen.position c.args.view.now in
    record {
      on = ap (λ (w : Grid). outcome g.R.Rule.KIND w c.args.p) c.goes_on.ensures.same
          ∙ goes_on-is (outcome g.R.Rule.KIND b c.args.p) (sym c.goes_on.ensures.on ∙ c.if-not-goes_on.false);
    }

pub returns-then-not-fouls_after-clause-last : goal.returns-then-not-fouls_after-clause-last
returns-then-not-fouls_after-clause-last g c =
    unfouled-last g.R.Rule.KIND (g.V.Seen.position c.args.view.now) c.args.p
    (ap (λ (w : Grid). all_foul g.R.Rule.KIND (after w c.args.p)) (sym c.goes_on.ensures.same) ∙ sym c.fouls_after.ensures.fouls
    ∙ c.if-not-fouls_after.true)

pub returns-clause-last : goal.returns-clause-last
returns-clause-last g c =
    c.is_threat_move.ensures.threat
    ∙ ap (λ (w : Grid). is_threat_move g.R.Rule.KIND w c.args.p) (c.fouls_after.ensures.same ∙ c.goes_on.ensures.same)
    ∙ fouled-last g.R.Rule.KIND (g.V.Seen.position c.args.view.now) c.args.p
    (ap (λ (w : Grid). all_foul g.R.Rule.KIND (after w c.args.p)) (sym c.goes_on.ensures.same) ∙ sym c.fouls_after.ensures.fouls
    ∙ c.if-not-fouls_after.false)
