use Rattle.std.proofs.Common.{◌≡◌, ◌⊎◌, rules, ap, ◌∙◌}
use Rattle.game_rules.specs.Grid.{along}
use Rattle.row_shapes.specs.LineCodes.{line_code}
use Rattle.row_shapes.specs.LineShapes.{shape_of}
use Rattle.row_shapes.proofs.CodeDigits.{code_of_places, told_shape}
use Rattle.row_shapes.proofs.ReachLaw.{digit_low}
use Rattle.row_shapes.proofs.point_shapes.shape_at.Goals as goal

pub shape_of_places-requires-clause-digits : goal.shape_of_places-requires-clause-digits
shape_of_places-requires-clause-digits g c = λ i low. rw (c.places_around-places.ensures.digits i low)
    (digit_low c.args.board.now c.args.side (along c.args.axis c.args.p i c.reach_of-reach.result))

pub returns-clause-shape : goal.returns-clause-shape
returns-clause-shape g c =
    let far : (c.reach_of-reach.result ≡ 4) ⊎ (c.reach_of-reach.result ≡ 5) = search rules in
    c.shape_of_places.ensures.shape
    ∙ ap (shape_of c.reach_of-reach.result) (code_of_places c.args.board.now c.args.side c.args.axis c.args.p c.reach_of-reach.result
    c.places_around-places.result.own c.places_around-places.result.taken far c.places_around-places.ensures.digits)
    ∙ ap (λ r. shape_of r (line_code r c.args.board.now c.args.side c.args.axis c.args.p)) c.reach_of-reach.ensures.reach

pub returns-clause-made : goal.returns-clause-made
returns-clause-made g c = rw (returns-clause-shape g c)
    (told_shape g.R.Rule.KIND c.args.board.now c.args.side c.args.axis c.args.p c.places_around-places.ensures.board c.requires.empty)
