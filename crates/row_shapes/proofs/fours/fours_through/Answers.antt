use Rattle.std.proofs.Common.{◌≡◌, ◌+◌, ◌<◌, sym, ap, subst, ◌∙◌, arith, count_by}
use Rattle.std.specs.List.{range_with_len}
use Rattle.game_rules.proofs.Common.{is_on, fours_of, place_stone, place_wins}
use Rattle.game_rules.proofs.Boards.{and_left}
use Rattle.game_rules.specs.declared.Side.{Side}
use Rattle.row_shapes.proofs.Common.{listed}
use Rattle.row_shapes.proofs.Counting.{fours_by_gap, fours_of-gap, fours_listed, no_fours}
use Rattle.row_shapes.proofs.WindowLaws.{no_fours_on}
use Rattle.row_shapes.proofs.fours.fours_through.Goals as goal

pub returns-then-count-lt4-clause-fours : goal.returns-then-count-lt4-clause-fours
returns-then-count-lt4-clause-fours g c = λ s mine.
    let stone = place_stone c.args.board.now c.side_at-side.result c.args.axis c.args.p in
    let held : c.count.result ≡ count_by stone (range_with_len 0 9) =
    c.count.ensures.count ∙ ap (count_by (λ r. r)) c.stones_around-stones.ensures.stones in
    let few : count_by stone (range_with_len 0 9) < 4 = omega arith in
    let here = sym (fours_of-gap g.R.Rule.KIND c.args.board.now c.side_at-side.result c.args.axis c.args.p
    ∙ no_fours stone (place_wins g.R.Rule.KIND c.args.board.now c.side_at-side.result c.args.axis c.args.p) few) in
    subst (λ (s : Side). 0 ≡ fours_of g.R.Rule.KIND c.args.board.now s c.args.axis c.args.p) (c.side_at-side.ensures.side s mine) here

pub returns-clause-fours : goal.returns-clause-fours
returns-clause-fours g c = λ s mine.
    let stone = place_stone c.args.board.now c.side_at-side.result c.args.axis c.args.p in
    let wins = place_wins g.R.Rule.KIND c.args.board.now c.side_at-side.result c.args.axis c.args.p in
    let sum : c.fours_from.result + c.fours_from-2.result + c.fours_from-3.result + c.fours_from-4.result + c.fours_from-5.result
    ≡ fours_by_gap (listed c.stones_around-stones.result) wins = omega arith in
    let here = sum ∙ ap (λ l. fours_by_gap (listed l) wins) c.stones_around-stones.ensures.stones ∙ fours_listed stone wins
    ∙ sym (fours_of-gap g.R.Rule.KIND c.args.board.now c.side_at-side.result c.args.axis c.args.p) in
    subst (λ (s : Side). c.fours_from.result + c.fours_from-2.result + c.fours_from-3.result + c.fours_from-4.result + c.fours_from-5.result
    ≡ fours_of g.R.Rule.KIND c.args.board.now s c.args.axis c.args.p) (c.side_at-side.ensures.side s mine) here

pub returns-then-not-line_through_may_win-clause-fours : goal.returns-then-not-line_through_may_win-clause-fours
returns-then-not-line_through_may_win-clause-fours g c = λ s mine.
    let board = c.args.board.now in
    let on = and_left (is_on board c.args.p) _ c.side_at-side.ensures.stone in
    let here = sym (no_fours_on board c.side_at-side.result c.args.axis c.args.p c.line_through_may_win.ensures.board on
    (c.line_through_may_win.ensures.none c.if-not-line_through_may_win.true) g.R.Rule.KIND) in
    subst (λ (s : Side). 0 ≡ fours_of g.R.Rule.KIND board s c.args.axis c.args.p) (c.side_at-side.ensures.side s mine) here
