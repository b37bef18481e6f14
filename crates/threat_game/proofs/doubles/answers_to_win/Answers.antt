use Rattle.std.proofs.Common.{◌≡◌, false, ap, sym, ◌∙◌, arith}
use Rattle.game_rules.proofs.Common.{Grid, empties_of, has_fouls, mover, other}
use Rattle.threat_game.proofs.KeptDoubles.{both-replies}
use Rattle.threat_game.proofs.doubles.answers_to_win.Goals as goal

pub returns-then-empties-ge3-clause-nodes : goal.returns-then-empties-ge3-clause-nodes
returns-then-empties-ge3-clause-nodes g c =
    let b : Grid = g.V.Seen.position c.args.view.now in
    let calm : has_fouls g.R.Rule.KIND (other (mover b)) ≡ false =
    ap (has_fouls g.R.Rule.KIND) (sym (c.other.ensures.other ∙ ap other c.side.ensures.side)) ∙ sym c.has_fouls.ensures.fouls
    ∙ c.if-not-has_fouls.true in
    let count : c.empties.result ≡ empties_of b = c.empties.ensures.empties ∙ ap empties_of c.board.ensures.board in
    let three = c.if-empties-ge3.true in
    both-replies g.R.Rule.KIND b c.args.double c.side.ensures.lawful c.requires.wins calm (omega (arith, count, three))
