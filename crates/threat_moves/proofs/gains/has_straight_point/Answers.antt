use Rattle.std.proofs.Common.{◌≡◌, true, below_more, sym, ◌∙◌, arith}
use Rattle.game_rules.specs.Grid.{along}
use Rattle.game_rules.proofs.Boards.{answer_at}
use Rattle.foul_judge.proofs.ThreePlaces.{bit_clear}
use Rattle.threat_moves.specs.FiveEnds.{is_straight_at}
use Rattle.threat_moves.proofs.GainLaws.{straight_by_place, no_straight_place, not_straight}
use Rattle.threat_moves.proofs.gains.has_straight_point.Goals as goal
use Rattle.threat_moves.proofs.gains.has_straight_point.Goals.{else-line_points-place-eq1-via-then-line_points-place-eq1+else-is_free}
use Rattle.threat_moves.proofs.gains.has_straight_point.Goals.{else-line_points-place-eq1-via-else-line_points-place-eq1}

pub returns-then-is_free-clause-straight : goal.returns-then-is_free-clause-straight
returns-then-is_free-clause-straight g c =
    let here : is_straight_at g.R.Rule.KIND c.args.board.now c.args.side c.args.axis c.args.gain
    (along c.args.axis c.args.gain c.loop-place.place 5) ≡ true =
    answer_at (λ b. is_straight_at g.R.Rule.KIND b c.args.side c.args.axis c.args.gain (along c.args.axis c.args.gain c.loop-place.place 5))
    _ c.args.board.now _ _ c.is_free.ensures.straight c.loop-place.invariant.0 c.if-is_free.true in
    sym (straight_by_place g.R.Rule.KIND c.args.board.now c.args.side c.args.axis c.args.gain c.loop-place.place here)

pub returns-clause-straight : goal.returns-clause-straight
returns-clause-straight g c =
    sym (no_straight_place g.R.Rule.KIND c.args.board.now c.args.side c.args.axis c.args.gain c.requires.board c.requires.stone
    (λ i low. c.loop-place.invariant.1 i (omega arith)))

pub loop-place-preserved : goal.loop-place-preserved
loop-place-preserved g c = elim c.else-line_points-place-eq1.branch [
  | else-line_points-place-eq1-via-then-line_points-place-eq1+else-is_free w ↦ (
    w.board-is ∙ w.is_free.ensures.same ∙ c.loop-place.invariant.0,
    below_more _ _ c.loop-place.invariant.1
        (answer_at (λ b. is_straight_at g.R.Rule.KIND b c.args.side c.args.axis c.args.gain
        (along c.args.axis c.args.gain c.loop-place.place 5)) _ c.args.board.now _ _ w.is_free.ensures.straight c.loop-place.invariant.0
        w.if-is_free.false),
  )
  | else-line_points-place-eq1-via-else-line_points-place-eq1 w ↦ (
    w.board-is ∙ c.loop-place.invariant.0,
    below_more _ _ c.loop-place.invariant.1
        (not_straight g.R.Rule.KIND c.args.board.now c.args.side c.args.axis c.args.gain
        (along c.args.axis c.args.gain c.loop-place.place 5)
        (bit_clear c.three_points-line_points.result c.loop-place.place _
        (c.three_points-line_points.ensures.points c.args.side c.requires.stone c.loop-place.place (omega arith))
        w.if-line_points-place-eq1.false)),
  )
]
