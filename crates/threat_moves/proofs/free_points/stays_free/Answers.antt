use Rattle.std.proofs.Common.{sym, ◌∙◌}
use Rattle.game_rules.proofs.Common.{put, other}
use Rattle.game_rules.proofs.Outcomes.{no_foul}
use Rattle.threat_moves.proofs.FarStones.{stays-free}
use Rattle.threat_moves.proofs.free_points.stays_free.Goals as goal

pub returns-then-not-has_fouls-clause-stays : goal.returns-then-not-has_fouls-clause-stays
returns-then-not-has_fouls-clause-stays g c = λ told none z free apart.
    no_foul g.R.Rule.KIND (put c.args.board.now (other c.args.side) z) c.args.side c.args.p
    (sym c.has_fouls.ensures.fouls ∙ c.if-not-has_fouls.true)

pub returns-clause-stays : goal.returns-clause-stays
returns-clause-stays g c = λ told.
    stays-free g.R.Rule.KIND c.args.board.now c.args.side c.args.p c.has_few_threes.ensures.board c.requires.empty
    (λ fouls. c.has_few_threes.ensures.few told)
