use Rattle.std.proofs.Common.{rules, ◌≡◌, true, false, arith}
use Rattle.std.proofs.lemmas.Grind.{common_steps}
use Rattle.game_rules.specs.Grid.{Grid}
use Rattle.threat_game.specs.Attacks.{has_reply, has_saving}
use Rattle.threat_game.proofs.AttackLaws.{best-here, best-saved, best-fouled}
use Rattle.threat_game.proofs.attacks.best_reply.Goals as goal

pub returns-in-GoesOn-clause-best : goal.returns-in-GoesOn-clause-best
returns-in-GoesOn-clause-best g c =
    let b : Grid = g.V.Seen.position c.args.view.now in
    let here : has_reply g.R.Rule.KIND b ≡ true = first_of (search rules, grind (arith, common_steps)) in
    best-here g.R.Rule.KIND b here

pub returns-then-saved-clause-best : goal.returns-then-saved-clause-best
returns-then-saved-clause-best g c =
    let b : Grid = g.V.Seen.position c.args.view.now in
    let none : has_reply g.R.Rule.KIND b ≡ false = first_of (search rules, grind (arith, common_steps)) in
    let some : has_saving g.R.Rule.KIND b ≡ true = first_of (search rules, grind (arith, common_steps)) in
    best-saved g.R.Rule.KIND b none some

pub returns-else-saved-clause-best : goal.returns-else-saved-clause-best
returns-else-saved-clause-best g c =
    let b : Grid = g.V.Seen.position c.args.view.now in
    let none : has_reply g.R.Rule.KIND b ≡ false = first_of (search rules, grind (arith, common_steps)) in
    let unsaved : has_saving g.R.Rule.KIND b ≡ false = first_of (search rules, grind (arith, common_steps)) in
    best-fouled g.R.Rule.KIND b none unsaved
