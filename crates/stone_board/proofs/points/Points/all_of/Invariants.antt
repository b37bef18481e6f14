use Rattle.std.proofs.Common.{◌≡◌, ◌++◌}
use Rattle.game_rules.specs.Grid.{points_of}
use Rattle.stone_board.proofs.points.Points.all_of.Given as goal

-- the points so far, and those left, are all
abbrev pub invariant-loop-p : goal.invariant-loop-p
invariant-loop-p l = l.points ++ l.p-iterator ≡ points_of l.board
