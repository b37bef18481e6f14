use Rattle.std.proofs.Common.{◌≡◌, ◌+◌, true, false, sym, ap, ◌∙◌, None}
use Rattle.game_rules.proofs.Common.{is_empty, is_line_three_at, towards}
use Rattle.game_rules.proofs.Threes.{taken_three}
use Rattle.stone_board.specs.Steps.{kept_on}
use Rattle.stone_board.proofs.Looks.{kept-Some, three-kept}
use Rattle.row_shapes.proofs.Common.{is_open_four}
use Rattle.row_shapes.proofs.ThreePoints.{three_at}
use Rattle.row_shapes.proofs.threes.fills_to_four.Goals as goal

pub returns-in-None : goal.returns-in-None
returns-in-None g c =
    let none : kept_on c.args.board.now (towards c.args.way c.args.row.axis c.args.row.point (1 + c.args.near)) ≡ None =
    sym c.step_towards.ensures.step ∙ c.in-None.is in
    record {
      three = ap (is_line_three_at g.R.Rule.KIND c.args.board.now c.args.row.side c.args.row.axis c.args.row.point) (sym none)
          ∙ three-kept g.R.Rule.KIND c.args.board.now c.args.row.side c.args.row.axis c.args.row.point _;
    }

pub returns-then-is_empty : goal.returns-then-is_empty
returns-then-is_empty g c =
    let here = kept-Some c.args.board.now (towards c.args.way c.args.row.axis c.args.row.point (1 + c.args.near)) c.in-Some.q
    (sym c.step_towards.ensures.step ∙ c.in-Some.is) in
    let empty : is_empty c.args.board.now c.in-Some.q ≡ true = sym c.is_empty.ensures.empty ∙ c.if-is_empty.true in
    let three = three_at g.R.Rule.KIND c.args.board.now c.args.row.side c.args.row.axis c.args.row.point c.is_empty.ensures.board
    c.requires.stone
    c.args.way c.args.near c.args.far c.in-Some.q c.requires.near c.requires.far here.0 empty in
    record {
      three = c.is_open_four.ensures.open ∙ ap
          (λ k. is_open_four g.R.Rule.KIND c.args.board.now c.args.row.side c.args.row.axis c.args.row.point c.args.way
          (1 + c.args.near + k) c.args.far)
          c.stones_towards-more.ensures.stones ∙ sym three;
    }

pub returns-else-is_empty : goal.returns-else-is_empty
returns-else-is_empty g c =
    let here = kept-Some c.args.board.now (towards c.args.way c.args.row.axis c.args.row.point (1 + c.args.near)) c.in-Some.q
    (sym c.step_towards.ensures.step ∙ c.in-Some.is) in
    let taken : is_empty c.args.board.now c.in-Some.q ≡ false = sym c.is_empty.ensures.empty ∙ c.if-is_empty.false in
    record {
      three = c.if-is_empty.false ∙ sym
          (ap (is_line_three_at g.R.Rule.KIND c.args.board.now c.args.row.side c.args.row.axis c.args.row.point) here.0
          ∙ taken_three g.R.Rule.KIND c.args.board.now c.args.row.side c.args.row.axis c.args.row.point c.in-Some.q taken);
    }
