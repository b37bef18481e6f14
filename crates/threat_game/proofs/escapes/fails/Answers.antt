use Rattle.std.proofs.Common.{◌≡◌, ◌∙◌, sym, subst, List, All}
use Rattle.game_rules.proofs.Common.{Grid, outcome}
use Rattle.game_rules.specs.declared.Outcome.TheVariants.{GoesOn}
use Rattle.game_rules.specs.declared.Point.{Point}
use Rattle.threat_game.specs.declared.attacks.Attacks.TheVariants.{Moves}
use Rattle.threat_game.specs.Attacks.{AreAttacks, tried_moves}
use Rattle.threat_game.proofs.FreeMoves.{fails-told, tried-on}
use Rattle.threat_game.proofs.escapes.fails.Goals as goal

pub each_fails-requires-clause-on : goal.each_fails-requires-clause-on
each_fails-requires-clause-on g c =
    let b : Grid = g.V.Seen.position c.args.view.now in
    let all : AreAttacks g.R.Rule.KIND b (Moves c.in-Moves.moves) =
    subst (AreAttacks g.R.Rule.KIND b) c.in-Moves.is c.in_ok-find_attacks.ensures.attacks in
    let are : c.as_slice.result.now ≡ tried_moves g.R.Rule.KIND b = c.as_slice.ensures.items ∙ all.0 in
    subst (λ (ps : List Point). All (λ p. outcome g.R.Rule.KIND (g.V.Seen.position c.find_attacks.new.view) p ≡ GoesOn) ps) (sym are)
    (subst (λ (d : Grid). All (λ p. outcome g.R.Rule.KIND d p ≡ GoesOn) (tried_moves g.R.Rule.KIND b)) (sym c.find_attacks.ensures.same)
    (tried-on g.R.Rule.KIND b))

pub returns-in-Moves-clause-no_win : goal.returns-in-Moves-clause-no_win
returns-in-Moves-clause-no_win g c =
    let b : Grid = g.V.Seen.position c.args.view.now in
    let all : AreAttacks g.R.Rule.KIND b (Moves c.in-Moves.moves) =
    subst (AreAttacks g.R.Rule.KIND b) c.in-Moves.is c.in_ok-find_attacks.ensures.attacks in
    fails-told g.R.Rule.KIND 1 b (g.V.Seen.position c.find_attacks.new.view) c.find_attacks.ensures.same c.requires.none all.1
    c.as_slice.result.now (c.as_slice.ensures.items ∙ all.0) c.each_fails.result c.each_fails.ensures.escapes
