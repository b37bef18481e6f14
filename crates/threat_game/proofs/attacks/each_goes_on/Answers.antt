use Rattle.std.proofs.Common.{◌≡◌, ◌≤◌, ℕ, false, ap, sym, subst, ◌∙◌, arith}
use Rattle.std.proofs.lemmas.Bool.Decides.{nat_tests}
use Rattle.game_rules.proofs.Common.{Grid, empties_of, has_fouls, mover}
use Rattle.threat_game.proofs.FreeMoves.{each-goes_on}
use Rattle.threat_game.proofs.attacks.each_goes_on.Goals as goal

pub returns-then-not-has_fouls : goal.returns-then-not-has_fouls
returns-then-not-has_fouls g c = record {
  each = λ h.
      let b : Grid = g.V.Seen.position c.args.view.now in
      let calm : has_fouls g.R.Rule.KIND (mover b) ≡ false =
      ap (has_fouls g.R.Rule.KIND) (sym c.side.ensures.side) ∙ sym c.has_fouls.ensures.fouls ∙ c.if-not-has_fouls.true in
      let two : 2 ≤ c.empties.result = grind (arith, nat_tests, h) in
      let many : 2 ≤ empties_of b = subst (λ (n : ℕ). 2 ≤ n) (c.empties.ensures.empties ∙ ap empties_of c.board.ensures.board) two in
      each-goes_on g.R.Rule.KIND b c.requires.none calm many;
}
