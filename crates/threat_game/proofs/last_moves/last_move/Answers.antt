use Rattle.std.proofs.Common.{rules, ◌≡◌, true, false, ap, sym, subst, ◌∙◌, arith}
use Rattle.std.proofs.lemmas.Grind.{common_steps}
use Rattle.std.specs.List.{list_any}
use Rattle.game_rules.proofs.Common.{Grid, points_of, mover, other, has_fouls}
use Rattle.threat_game.proofs.Common.{is_last_move, HasTwoQuiet}
use Rattle.threat_game.proofs.AttackLaws.{none-last, no_fouls-last}
use Rattle.threat_game.proofs.QuietLaws.{no_last, white-turn}
use Rattle.threat_game.proofs.last_moves.last_move.Goals as goal

pub returns-then-not-has_fouls-clause-no_win : goal.returns-then-not-has_fouls-clause-no_win
returns-then-not-has_fouls-clause-no_win g c =
    no_fouls-last g.R.Rule.KIND (g.V.Seen.position c.args.view.now) c.side.ensures.lawful c.requires.none
    (ap (has_fouls g.R.Rule.KIND) (sym (c.other-defender.ensures.other ∙ ap other c.side.ensures.side)) ∙ sym c.has_fouls.ensures.fouls
    ∙ c.if-not-has_fouls.true)

pub returns-then-has_two_quiet-clause-no_win : goal.returns-then-has_two_quiet-clause-no_win
returns-then-has_two_quiet-clause-no_win g c =
    let b : Grid = g.V.Seen.position c.args.view.now in
    let fouls : has_fouls g.R.Rule.KIND (other (mover b)) ≡ true =
    ap (has_fouls g.R.Rule.KIND) (sym (c.other-defender.ensures.other ∙ ap other c.side.ensures.side)) ∙ sym c.has_fouls.ensures.fouls
    ∙ c.if-not-has_fouls.false in
    let two : HasTwoQuiet b = subst (λ (w : Grid). HasTwoQuiet w) c.board.ensures.board
    (c.has_two_quiet.ensures.two c.if-has_two_quiet.true) in
    none-last g.R.Rule.KIND b c.side.ensures.lawful c.requires.none
    (no_last g.R.Rule.KIND b c.side.ensures.lawful (white-turn g.R.Rule.KIND (mover b) fouls) two)

pub returns-clause-no_win : goal.returns-clause-no_win
returns-clause-no_win g c =
    let b : Grid = g.V.Seen.position c.args.view.now in
    let no : false ≡ list_any (is_last_move g.R.Rule.KIND b) (points_of b) = first_of (search rules, grind (arith, common_steps)) in
    none-last g.R.Rule.KIND b c.side.ensures.lawful c.requires.none no
