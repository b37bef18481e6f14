use Rattle.std.proofs.Common.{◌≡◌, ◌^◌, subst, sym, ap, ◌∙◌, bit_or}
use Rattle.std.proofs.lemmas.Bool.{both_ways}
use Rattle.stone_board.specs.Lines.{place_on}
use Rattle.row_shapes.proofs.Common.{HasRow}
use Rattle.row_shapes.proofs.WindowLaws.{no_row}
use Rattle.row_shapes.proofs.windows.may_win.Goals as goal

pub returns : goal.returns
returns c =
    let bit : c.bit_of_place.result ≡ 2 ^ place_on c.args.axis c.args.p = c.bit_of_place.ensures.bit
    ∙ ap (λ k. 2 ^ k) c.place_on.ensures.place in
    record {
      none = λ off rule. no_row rule c.args.board.now c.args.side c.args.axis c.args.p c.line_through.result c.line_through.ensures.board
          c.line_through.ensures.tells (λ row. both_ways _ off (c.has_row.ensures.row.1
          (subst (λ n. HasRow (bit_or c.line_through.result n)) (sym bit) row)));
    }
