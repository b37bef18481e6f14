use Rattle.std.proofs.Common.{◌≡◌, ℕ, ◌+◌, ◌*◌, ◌<◌, false}
use Rattle.game_rules.specs.Grid.{empties_of, along}
use Rattle.foul_judge.specs.Threes.{free_three}
use Rattle.foul_judge.proofs.foul.+fouls.Given as goal

abbrev pub decreases-black_outcome : goal.decreases-black_outcome
decreases-black_outcome g l = 6 * empties_of l.board.now + 5

abbrev pub decreases-outcome_of_shapes : goal.decreases-outcome_of_shapes
decreases-outcome_of_shapes g l = 6 * empties_of l.board.now + 4

abbrev pub decreases-has_two_threes : goal.decreases-has_two_threes
decreases-has_two_threes g l = 6 * empties_of l.board.now + 3

-- with the stone on the board
abbrev pub decreases-two_threes : goal.decreases-two_threes
decreases-two_threes g l = 6 * empties_of l.board.now + 8

abbrev pub decreases-is_three : goal.decreases-is_three
decreases-is_three g l = 6 * empties_of l.board.now + 7

abbrev pub decreases-is_free_three : goal.decreases-is_free_three
decreases-is_free_three g l = 6 * empties_of l.board.now + 6

-- none of the places so far is a three point that is no foul
abbrev pub invariant-is_three-loop-place : goal.invariant-is_three-loop-place
invariant-is_three-loop-place g l = (l.board ≡ l.fn.board)
    × ((i : ℕ) → i < l.place → free_three g.R.Rule.KIND l.fn.board l.axis l.p (along l.axis l.p i 5) ≡ false)
