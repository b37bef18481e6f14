use Rattle.board_symmetry.proofs.Filling.{Filled}
use Rattle.board_symmetry.proofs.boards.image_board.Given as goal

-- what is taken to each point but those left stands there, and those left are empty
abbrev pub invariant-loop-at : goal.invariant-loop-at
invariant-loop-at l = Filled l.fn.s l.board l.image l.at-iterator
