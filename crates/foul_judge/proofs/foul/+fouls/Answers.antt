use Rattle.std.proofs.Common.{rules, ◌≡◌, ◌+◌, ◌*◌, ◌<◌, true, below_more, sym, ap, ◌∙◌}
use Rattle.std.proofs.Common.{arith}
use Rattle.game_rules.proofs.Common.{Grid, IsBoard, is_empty, empties_of, holds, lift, along, is_line_three_at}
use Rattle.game_rules.specs.declared.Side.TheVariants.{Black}
use Rattle.game_rules.proofs.Boards.{lift-put, is_empty-on, empties_of-put, holds-put_same, answer_at}
use Rattle.game_rules.proofs.Positions.{IsBoard-put}
use Rattle.stone_board.specs.Steps.{holds_stone}
use Rattle.stone_board.proofs.Looks.{kept-Some}
use Rattle.stone_board.proofs.Stones.{put-holds_stone}
use Rattle.foul_judge.proofs.ThreePlaces.{three_by_place, no_three, no_free_three, line_three-empty, free_three-line, not_free}
use Rattle.foul_judge.proofs.ThreePlaces.{bit_clear, bit_set}
use Rattle.foul_judge.proofs.MayFoul.{quiet_by_few}
use Rattle.foul_judge.proofs.FoulShapes.{by_shapes, few_lines, quiet-outcome, three_bit}
use Rattle.foul_judge.proofs.Common.{may_foul, free_three, stone_shapes, two_threes}
use Rattle.foul_judge.proofs.foul.+fouls.Goals.{is_three-else-line_points-place-eq1-via-then-line_points-place-eq1+else-is_free_three}
use Rattle.foul_judge.proofs.foul.+fouls.Goals.{is_three-else-line_points-place-eq1-via-else-line_points-place-eq1}
use Rattle.foul_judge.proofs.foul.+fouls.Goals as goal

pub black_outcome-returns-then-not-may_foul-clause-outcome : goal.black_outcome-returns-then-not-may_foul-clause-outcome
black_outcome-returns-then-not-may_foul-clause-outcome g t c =
    c.quiet_outcome.ensures.outcome
    ∙ sym (quiet_by_few g.R.Rule.KIND c.args.board.now c.args.p c.reaches-reaches.ensures.board c.requires.empty
    (ap may_foul (sym c.reaches-reaches.ensures.reaches) ∙ sym c.may_foul.ensures.may ∙ c.if-not-may_foul.true))

pub black_outcome-returns-clause-outcome : goal.black_outcome-returns-clause-outcome
black_outcome-returns-clause-outcome g t c =
    c.outcome_of_shapes.ensures.outcome
    ∙ sym (by_shapes g.R.Rule.KIND c.args.board.now c.args.p (sym g.met.R.Rule.fouls ∙ c.requires.fouls) c.reaches-reaches.ensures.board
    c.requires.empty c.black_shapes-made.result c.black_shapes-made.ensures.shapes)

pub has_two_threes-returns-then-line_threes-lt2-clause-two : goal.has_two_threes-returns-then-line_threes-lt2-clause-two
has_two_threes-returns-then-line_threes-lt2-clause-two g t c =
    few_lines g.R.Rule.KIND c.args.board.now c.args.p (sym g.met.R.Rule.fouls ∙ c.requires.fouls) c.requires.board c.requires.empty
    c.args.made.now c.requires.made c.line_threes.result c.line_threes.ensures.threes c.if-line_threes-lt2.true

pub has_two_threes-two_threes-result-requires : goal.has_two_threes-two_threes-result-requires
has_two_threes-two_threes-result-requires g t c =
    let fewer = empties_of-put c.args.board.now Black c.args.p c.put.ensures.board c.requires.empty in
    let less : 6 * empties_of c.put.new.self + 8 < 6 * empties_of c.args.board.now + 3 = rw c.put.ensures.put (omega (arith, fewer)) in
    let board : IsBoard c.put.new.self = rw c.put.ensures.put (IsBoard-put c.args.board.now Black c.args.p c.put.ensures.board) in
    let stone : holds c.put.new.self Black c.args.p ≡ true =
    rw c.put.ensures.put (holds-put_same c.args.board.now Black c.args.p c.put.ensures.board
    (is_empty-on c.args.board.now c.args.p c.requires.empty)) in
    let made : c.args.made.now ≡ stone_shapes g.R.Rule.KIND c.put.new.self c.args.p = rw c.put.ensures.put c.requires.made in
    search rules

pub has_two_threes-lift-requires : goal.has_two_threes-lift-requires
has_two_threes-lift-requires g t c =
    record {
      stone = ap (λ (b : Grid). holds_stone b c.args.p) (c.two_threes-result.ensures.same ∙ c.put.ensures.put)
          ∙ put-holds_stone c.args.board.now Black c.args.p c.put.ensures.board c.requires.empty;
    }

pub has_two_threes-returns-clause-two : goal.has_two_threes-returns-clause-two
has_two_threes-returns-clause-two g t c =
    c.two_threes-result.ensures.two ∙ ap (λ (b : Grid). two_threes g.R.Rule.KIND b c.args.p) c.put.ensures.put

pub has_two_threes-returns-clause-same : goal.has_two_threes-returns-clause-same
has_two_threes-returns-clause-same g t c =
    c.lift.ensures.lift ∙ ap (λ (b : Grid). lift b c.args.p) (c.two_threes-result.ensures.same ∙ c.put.ensures.put)
    ∙ lift-put c.args.board.now Black c.args.p c.requires.empty

pub is_free_three-black_outcome-requires : goal.is_free_three-black_outcome-requires
is_free_three-black_outcome-requires g t c =
    let here = kept-Some c.args.board.now (along c.args.axis c.args.p c.args.ahead 5) c.in-Some.q
    (sym c.along.ensures.along ∙ c.in-Some.is) in
    let empty : is_empty c.args.board.now c.in-Some.q ≡ true =
    line_three-empty g.R.Rule.KIND c.args.board.now c.args.axis c.args.p _ c.in-Some.q here.0 c.requires.three in
    let less : 6 * empties_of c.args.board.now + 5 < 6 * empties_of c.args.board.now + 6 = omega arith in
    search rules

pub is_free_three-returns-in-Some-clause-three : goal.is_free_three-returns-in-Some-clause-three
is_free_three-returns-in-Some-clause-three g t c =
    let here = kept-Some c.args.board.now (along c.args.axis c.args.p c.args.ahead 5) c.in-Some.q
    (sym c.along.ensures.along ∙ c.in-Some.is) in
    c.is_quiet.ensures.quiet
    ∙ quiet-outcome g.R.Rule.KIND c.args.board.now c.in-Some.q c.black_outcome.result c.black_outcome.ensures.outcome
    ∙ sym (free_three-line g.R.Rule.KIND c.args.board.now c.args.axis c.args.p _ c.in-Some.q here.0 c.requires.three)

pub is_free_three-returns-in-None-clause-three : goal.is_free_three-returns-in-None-clause-three
is_free_three-returns-in-None-clause-three g t c =
    sym (no_free_three g.R.Rule.KIND c.args.board.now c.args.axis c.args.p (along c.args.axis c.args.p c.args.ahead 5)
    (sym c.along.ensures.along ∙ c.in-None.is))

pub is_three-is_free_three-requires : goal.is_three-is_free_three-requires
is_three-is_free_three-requires g t c =
    let three : is_line_three_at g.R.Rule.KIND c.args.board.now Black c.args.axis c.args.p
    (along c.args.axis c.args.p c.loop-place.place 5) ≡ true =
    bit_set c.args.line_points c.loop-place.place _ (three_bit g.R.Rule.KIND c.args.board.now c.args.axis c.args.p _ c.loop-place.place
    c.requires.points (omega arith)) c.if-line_points-place-eq1.true in
    search rules

pub is_three-returns-then-is_free_three-clause-three : goal.is_three-returns-then-is_free_three-clause-three
is_three-returns-then-is_free_three-clause-three g t c =
    let here : free_three g.R.Rule.KIND c.args.board.now c.args.axis c.args.p (along c.args.axis c.args.p c.loop-place.place 5) ≡ true =
    answer_at (λ b. free_three g.R.Rule.KIND b c.args.axis c.args.p (along c.args.axis c.args.p c.loop-place.place 5)) _ c.args.board.now _
    _ c.is_free_three.ensures.three c.loop-place.invariant.0 c.if-is_free_three.true in
    sym (three_by_place g.R.Rule.KIND c.args.board.now c.args.axis c.args.p c.loop-place.place here)

pub is_three-returns-clause-three : goal.is_three-returns-clause-three
is_three-returns-clause-three g t c =
    sym (no_three g.R.Rule.KIND c.args.board.now c.args.axis c.args.p c.requires.board c.requires.stone
    (λ i low. c.loop-place.invariant.1 i (omega arith)))

pub is_three-loop-place-preserved : goal.is_three-loop-place-preserved
is_three-loop-place-preserved g t c = elim c.else-line_points-place-eq1.branch [
  | is_three-else-line_points-place-eq1-via-then-line_points-place-eq1+else-is_free_three w ↦ (
    w.board-is ∙ w.is_free_three.ensures.same ∙ c.loop-place.invariant.0,
    below_more _ _ c.loop-place.invariant.1
        (answer_at (λ b. free_three g.R.Rule.KIND b c.args.axis c.args.p (along c.args.axis c.args.p c.loop-place.place 5)) _
        c.args.board.now _ _ w.is_free_three.ensures.three c.loop-place.invariant.0 w.if-is_free_three.false),
  )
  | is_three-else-line_points-place-eq1-via-else-line_points-place-eq1 w ↦ (
    w.board-is ∙ c.loop-place.invariant.0,
    below_more _ _ c.loop-place.invariant.1
        (not_free g.R.Rule.KIND c.args.board.now c.args.axis c.args.p (along c.args.axis c.args.p c.loop-place.place 5)
        (bit_clear c.args.line_points c.loop-place.place _ (three_bit g.R.Rule.KIND c.args.board.now c.args.axis c.args.p _
        c.loop-place.place c.requires.points (omega arith)) w.if-line_points-place-eq1.false)),
  )
]
