use Rattle.std.proofs.Common.{◌≡◌, ◌∙◌, false, sym, ap, arith}
use Rattle.std.proofs.lemmas.Bool.{not-true}
use Rattle.game_rules.proofs.Common.{empties_of, mover, has_fouls}
use Rattle.strategy_checker.proofs.Sureness.{quick-going}
use Rattle.strategy_checker.proofs.outlook.is_quick.Goals as goal

pub returns-then-empties-gt1 : goal.returns-then-empties-gt1
returns-then-empties-gt1 g c =
    let count = c.empties.ensures.empties in
    let most = c.if-empties-gt1.true in
    let same = ap empties_of c.board.ensures.board in
    record {
      quick = λ h.
          let calm : has_fouls g.R.Rule.KIND (mover c.args.position.now) ≡ false =
          ap (has_fouls g.R.Rule.KIND) (sym c.side.ensures.side) ∙ sym c.has_fouls.ensures.fouls ∙ not-true _ h in
          quick-going g.R.Rule.KIND c.args.position.now (c.requires.free c.if-free.true) calm (omega (arith, count, most, same));
    }
