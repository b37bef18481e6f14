use Rattle.std.proofs.Common.{ap, sym, ◌∙◌}
use Rattle.game_rules.specs.Grid.{Grid, is_empty}
use Rattle.threat_game.proofs.DoubleLaws.{taken-no_move, no_threat-no_move, threat-move}
use Rattle.threat_game.proofs.attacks.is_new_threat.Goals as goal

pub returns-then-not-is_empty-clause-threat : goal.returns-then-not-is_empty-clause-threat
returns-then-not-is_empty-clause-threat g c =
    taken-no_move g.R.Rule.KIND (g.V.Seen.position c.args.view.now) c.args.p
    (ap (λ (w : Grid). is_empty w c.args.p) (sym c.board.ensures.board) ∙ sym c.is_empty.ensures.empty ∙ c.if-not-is_empty.true)

pub leaves_threat-requires-clause-empty : goal.leaves_threat-requires-clause-empty
leaves_threat-requires-clause-empty g c =
    ap (λ (w : Grid). is_empty w c.args.p) (sym c.board.ensures.board) ∙ sym c.is_empty.ensures.empty ∙ c.if-not-is_empty.false

pub returns-then-not-leaves_threat-clause-threat : goal.returns-then-not-leaves_threat-clause-threat
returns-then-not-leaves_threat-clause-threat g c =
    no_threat-no_move g.R.Rule.KIND (g.V.Seen.position c.args.view.now) c.args.p
    (sym c.leaves_threat.ensures.threat ∙ c.if-not-leaves_threat.true)

pub returns-clause-threat : goal.returns-clause-threat
returns-clause-threat g c =
    c.goes_on.ensures.on ∙ threat-move g.R.Rule.KIND (g.V.Seen.position c.args.view.now) c.args.p
    (sym c.leaves_threat.ensures.threat ∙ c.if-not-leaves_threat.false)
