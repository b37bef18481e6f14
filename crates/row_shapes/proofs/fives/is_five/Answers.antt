use Rattle.std.proofs.Common.{sym, ◌∙◌, arith}
use Rattle.std.proofs.lemmas.Bool.{false_from_ne_true, both_ways}
use Rattle.game_rules.proofs.Boards.{is_empty-on, on_x, on_y}
use Rattle.game_rules.proofs.Fives.{five-empty}
use Rattle.row_shapes.proofs.WindowLaws.{passes-point}
use Rattle.row_shapes.proofs.fives.is_five.Goals as goal

pub returns-else-hold : goal.returns-else-hold
returns-else-hold g c = record {
  five = c.if-hold.false ∙ sym (false_from_ne_true _ (λ h.
      let b = c.args.board.now in
      let on = is_empty-on b c.args.p (five-empty g.R.Rule.KIND b c.args.side c.args.p h) in
      let x = on_x b c.args.p on in
      let y = on_y b c.args.p on in
      let wide = c.requires.board.width_fits in
      let high = c.requires.board.height_fits in
      both_ways _ (passes-point b c.args.side c.args.lines c.args.p c.requires.lines
      (c.hold.ensures.none c.if-hold.false (omega (arith, x, wide)) (omega (arith, y, high))) g.R.Rule.KIND) h));
}
