use Rattle.std.proofs.Common.{◌≡◌, bit_or, cond, subst}
use Rattle.std.specs.Int.{bit_at}
use Rattle.std.proofs.lemmas.Nat.{or_lt}
use Rattle.game_rules.proofs.Common.{along, is_line_three_at}
use Rattle.game_rules.specs.declared.Side.{Side}
use Rattle.row_shapes.proofs.ThreePoints.{three_bits}
use Rattle.row_shapes.proofs.threes.three_points.Goals as goal

pub returns-clause-points : goal.returns-clause-points
returns-clause-points g c = λ s mine i low.
    let bits : bit_at (bit_or c.bit.result c.bit-2.result) i ≡ cond
    (is_line_three_at g.R.Rule.KIND c.args.board.now c.side_at-side.result c.args.axis c.args.p (along c.args.axis c.args.p i 5)) 1 0 =
    rw (c.bit.ensures.bit, c.bit-2.ensures.bit, c.three_place-ahead.ensures.place, c.three_place-behind.ensures.place)
    (three_bits g.R.Rule.KIND c.args.board.now c.side_at-side.result c.args.axis c.args.p c.three_place-ahead.ensures.board
    c.side_at-side.ensures.stone i) in
    subst (λ (s : Side). bit_at (bit_or c.bit.result c.bit-2.result) i ≡ cond
    (is_line_three_at g.R.Rule.KIND c.args.board.now s c.args.axis c.args.p (along c.args.axis c.args.p i 5)) 1 0)
    (c.side_at-side.ensures.side s mine) bits

pub returns-clause-bound : goal.returns-clause-bound
returns-clause-bound g c = or_lt 11 _ _ c.bit.ensures.bound c.bit-2.ensures.bound
