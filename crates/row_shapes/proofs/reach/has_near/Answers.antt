use Rattle.std.proofs.Common.{◌≡◌, sym, ap, refl, ◌∙◌, bit_and}
use Rattle.stone_board.specs.Lines.{place_on}
use Rattle.row_shapes.proofs.WindowLaws.{is_zero}
use Rattle.row_shapes.proofs.NearBits.{moved, none_in_reach}
use Rattle.row_shapes.proofs.reach.has_near.Goals as goal

pub returns-clause-none : goal.returns-clause-none
returns-clause-none c = λ off.
    let bits = c.line_through.result in
    let same : bit_and (moved bits (place_on c.args.axis c.args.p)) 27 ≡ bit_and (moved c.from-bits.result c.place_on.result) 27 =
    ap (λ n. bit_and (moved n (place_on c.args.axis c.args.p)) 27) (sym c.from-bits.ensures)
    ∙ ap (λ n. bit_and (moved c.from-bits.result n) 27) (sym c.place_on.ensures.place) in
    none_in_reach c.args.board.now c.args.side c.args.axis _ bits c.line_through.ensures.board c.line_through.ensures.tells
    c.args.p c.requires.on refl c.line_through.type_inv (same ∙ is_zero _ off)
