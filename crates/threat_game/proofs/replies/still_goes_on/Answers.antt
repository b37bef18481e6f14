use Rattle.std.proofs.Common.{◌≡◌, ap, sym, ◌∙◌, arith}
use Rattle.game_rules.proofs.Common.{Grid, empties_of, goes_on}
use Rattle.threat_game.proofs.KeptDoubles.{still-goes_on}
use Rattle.threat_game.proofs.replies.still_goes_on.Goals as goal

pub returns-then-empties-ge2-clause-on : goal.returns-then-empties-ge2-clause-on
returns-then-empties-ge2-clause-on g c =
    let b : Grid = g.V.Seen.position c.args.view.now in
    let count : c.empties.result ≡ empties_of b = c.empties.ensures.empties ∙ ap empties_of c.board.ensures.board in
    let two = c.if-empties-ge2.true in
    sym (ap goes_on (still-goes_on g.R.Rule.KIND b c.args.kept.double.at c.requires.kept.both.empty c.requires.none
    (c.requires.kept.free c.if-kept.true) (omega (arith, count, two))))
