use Rattle.std.proofs.Common.{◌≡◌, min, sym, ap, ◌∙◌}
use Rattle.stone_board.proofs.Common.{Grid, steps_left}
use Rattle.stone_board.proofs.LineRuns.{stones_by_bits}
use Rattle.stone_board.proofs.Strides.{left_by}
use Rattle.stone_board.proofs.board.Board.stones_towards.Goals as goal

pub returns-clause-stones : goal.returns-clause-stones
returns-clause-stones c =
    let b : Grid = c.args.self.now in
    let ones = c.ones_towards-ones.ensures in
    let left : c.from.result ≡ steps_left c.args.way c.args.axis b.width b.height c.args.p =
    left_by b c.args.way c.args.axis c.args.p c.from.result c.width.result c.height.result c.width.ensures.width c.height.ensures.height
    (c.from.ensures ∙ c.steps_left-most.ensures.steps) in
    c.min.ensures ∙ ap (λ n. min c.ones_towards-ones.result n) left
    ∙ sym (stones_by_bits b c.args.side c.args.axis c.args.p c.line_through-bits.result c.width.ensures.board c.requires.on
    c.line_through-bits.ensures.tells c.args.way c.ones_towards-ones.result c.place_on.result c.place_on.ensures.place ones.set ones.clear)
