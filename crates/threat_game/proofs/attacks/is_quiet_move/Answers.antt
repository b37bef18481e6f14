use Rattle.std.proofs.Common.{◌≡◌, ap, sym, subst, ◌∙◌, arith}
use Rattle.game_rules.proofs.Common.{Grid, empties_of, has_fouls, mover}
use Rattle.threat_game.specs.QuietPoints.{IsQuiet}
use Rattle.threat_game.proofs.QuietLaws.{fouls-black, quiet-goes_on}
use Rattle.threat_game.proofs.attacks.is_quiet_move.Goals as goal

pub returns-then-empties-ge2-clause-on : goal.returns-then-empties-ge2-clause-on
returns-then-empties-ge2-clause-on g c = λ told.
    let b : Grid = g.V.Seen.position c.args.view.now in
    let quiet : IsQuiet b c.args.p = subst (λ (w : Grid). IsQuiet w c.args.p) c.board-board.ensures.board (c.is_quiet.ensures.quiet told) in
    let turn = fouls-black g.R.Rule.KIND (mover b)
    (ap (has_fouls g.R.Rule.KIND) (sym c.side.ensures.side) ∙ sym c.has_fouls.ensures.fouls ∙ c.if-not-has_fouls.false) in
    let count : c.empties.result ≡ empties_of b = c.empties.ensures.empties ∙ ap empties_of c.board-board.ensures.board in
    let two = c.if-empties-ge2.true in
    quiet-goes_on g.R.Rule.KIND b c.args.p c.side.ensures.lawful.board quiet turn (omega (arith, count, two))
