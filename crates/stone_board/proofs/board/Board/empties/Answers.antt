use Rattle.std.proofs.Common.{arith, ap}
use Rattle.game_rules.specs.Grid.{empties_of}
use Rattle.game_rules.proofs.Cells.{counts_of_board}
use Rattle.stone_board.proofs.board.Board.empties.Goals as goal

pub overflow_sub-result-2 : goal.overflow_sub-result-2
overflow_sub-result-2 c =
    let all = counts_of_board _ c.self.invariant.board in
    let blacks = c.self.invariant.blacks in
    let whites = c.self.invariant.whites in
    omega (arith, all, blacks, whites)

pub returns : goal.returns
returns c =
    let all = counts_of_board _ c.self.invariant.board in
    let blacks = c.self.invariant.blacks in
    let whites = c.self.invariant.whites in
    let seen = ap empties_of c.self.view_is in
    record { empties = omega (arith, all, blacks, whites, seen) }
