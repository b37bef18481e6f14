use Rattle.std.proofs.Common.{ap, ◌∙◌}
use Rattle.game_rules.specs.Grid.{Grid, is_empty}
use Rattle.threat_game.proofs.FreeMoves.{free-tells}
use Rattle.threat_game.proofs.attacks.goes_on_where.Goals as goal

pub returns-then-each-clause-on : goal.returns-then-each-clause-on
returns-then-each-clause-on g c =
    c.is_empty.ensures.empty
    ∙ ap (λ (b : Grid). is_empty b c.args.p) c.board.ensures.board
    ∙ free-tells g.R.Rule.KIND (g.V.Seen.position c.args.view.now) (c.requires.each c.if-each.true) c.args.p
