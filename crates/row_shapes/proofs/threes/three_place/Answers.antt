use Rattle.std.proofs.Common.{◌≡◌, sym, ap, ◌∙◌, arith}
use Rattle.game_rules.proofs.Common.{opposite, stones_towards}
use Rattle.game_rules.specs.declared.Way.{Way}
use Rattle.row_shapes.proofs.ThreePoints.{no_place}
use Rattle.row_shapes.proofs.threes.three_place.Goals as goal

pub returns-then-near-far-gt2-clause-place : goal.returns-then-near-far-gt2-clause-place
returns-then-near-far-gt2-clause-place g c =
    let near = c.stones_towards-near.ensures.stones in
    let far : c.stones_towards-far.result ≡ stones_towards (opposite c.args.way) c.args.board.now c.args.side c.args.axis c.args.p =
    c.stones_towards-far.ensures.stones ∙ ap (λ (w : Way). stones_towards w c.args.board.now c.args.side c.args.axis c.args.p)
    c.opposite.ensures.opposite in
    sym (no_place g.R.Rule.KIND c.args.board.now c.args.side c.args.axis c.args.p c.stones_towards-near.ensures.board c.requires.stone
    c.args.way (omega (arith, near, far)))
