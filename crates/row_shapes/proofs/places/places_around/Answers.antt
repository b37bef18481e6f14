use Rattle.std.proofs.Common.{ℕ, ◌-◌, subst, arith}
use Rattle.std.specs.Int.{bit_at, w64}
use Rattle.std.proofs.lemmas.Nat.Bits.{bit_at_and, bit_at_or, bit_at_not, bit_at-lt}
use Rattle.game_rules.specs.declared.Side.{Side}
use Rattle.stone_board.specs.Lines.{line_of, TellsLine}
use Rattle.row_shapes.proofs.PlacesAround.{digit_is}
use Rattle.row_shapes.proofs.places.places_around.Goals as goal

pub returns-clause-digits : goal.returns-clause-digits
returns-clause-digits c = λ i low.
    let on : ℕ = c.on_board-on.result in
    let own : ℕ = c.moved-own.result in
    let others : ℕ = c.moved-others.result in
    let both = bit_at_and own on i in
    let either = bit_at_or others (18446744073709551615 - on) i in
    let turn = bit_at_not w64 on i c.on_board-on.type_inv (omega (arith, low)) in
    let theirs = subst (λ (s : Side). TellsLine c.args.board.now s c.args.axis (line_of c.args.axis c.args.p) c.line_through-2.result)
    c.other.ensures.other c.line_through-2.ensures.tells in
    rw (both, either, turn, c.on_board-on.ensures.on)
    (digit_is c.args.board.now c.args.side c.args.axis c.args.p c.on_board-on.ensures.board c.requires.on c.args.reach _ _
    c.line_through.ensures.tells theirs i c.place_on-place.result (bit_at own i) (bit_at others i) c.place_on-place.ensures.place
    (c.moved-own.ensures.moved i) (c.moved-others.ensures.moved i) (bit_at-lt own i) (bit_at-lt others i))
