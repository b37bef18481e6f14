-- What the answers of the four search say.
use Rattle.std.specs.Prelude.{◌≡◌, ℕ, ◌*◌, ◌<◌, ◌≤◌, Bool, List, Some, true, false}
use Rattle.game_rules.specs.Grid.{Grid}
use Rattle.game_rules.specs.Games.{WinsByFours, wins_by_fours}
use Rattle.game_rules.specs.declared.RuleKind.{RuleKind}
use Rattle.game_rules.specs.declared.Point.{Point}
use Rattle.strategy_graph.specs.declared.Node.{Node}
use Rattle.strategy_graph.specs.Arrivals.{arrivals}
use Rattle.strategy_compiler.specs.Trees.{StandsFor}
use Rattle.strategy_compiler.specs.declared.wins.WrittenWin.{WrittenWin}
use Rattle.strategy_compiler.specs.Wins.{IsWrittenWin}
use Rattle.four_search.specs.declared.answer.FourAnswer.{FourAnswer}
use Rattle.four_search.specs.declared.answer.FourAnswer.TheVariants.{Win, None, Spent}
use Rattle.four_search.specs.declared.answer.Sought.{Sought}
use Rattle.four_search.specs.declared.answer.Sought.TheVariants.{Win as SoughtWin, None as SoughtNone, Spent as SoughtSpent}
use Rattle.four_search.specs.FourGame.{four_cost, least_moves}
use Rattle.four_search.specs.Searching.{four_line}
use Rattle.four_search.specs.Plans.{four_plan}

-- P holds of the win, if the answer is one
abbrev pub OnWin : FourAnswer → (WrittenWin → Type 0) → Type 0
OnWin (Win win) P = P win
OnWin None P = Unit {0}
OnWin Spent P = Unit {0}

-- so many moves are the fewest within which the side to move wins by continuous fours
pub record IsFewestByFours (rule : RuleKind) (moves : ℕ) (b : Grid) : Type 0 where
  pub wins : WinsByFours rule moves b
  pub no_fewer : (k : ℕ) → k < moves → ¬ WinsByFours rule k b

-- A written win by fours: its moves are the fewest, up to the limit as the search counts them, and its node stands for the plan
-- of that win. The arrivals at nodes from it are no more than the points of the board for each move.
pub record IsFourWin (rule : RuleKind) (limit : ℕ) (b : Grid) (t : List Node) (win : WrittenWin) : Type 0 where
  pub written : IsWrittenWin rule limit b t win
  pub fewest : IsFewestByFours rule win.moves b
  pub least : least_moves rule limit b ≡ Some win.moves
  pub stands : StandsFor t win.node (four_plan rule win.moves b)
  pub short : arrivals rule t win.node b ≤ b.width * b.height * win.moves

-- Within so many moves, up to the limit, and none fewer the side to move wins by continuous fours, and this is the line of the win; and
-- the budget suffices.
pub record IsSought (rule : RuleKind) (limit budget : ℕ) (b : Grid) (moves : ℕ) (line : List Point) : Type 0 where
  pub some : 1 ≤ moves
  pub within : moves ≤ limit
  pub wins : wins_by_fours rule moves b ≡ true
  pub no_fewer : (k : ℕ) → 1 ≤ k → k < moves → wins_by_fours rule k b ≡ false
  pub tells : line ≡ four_line rule moves b
  pub fits : four_cost rule limit b ≤ budget

-- there is no win by fours within the limit, and the budget suffices to see this
pub record IsWithoutFours (rule : RuleKind) (limit budget : ℕ) (b : Grid) : Type 0 where
  pub none : wins_by_fours rule limit b ≡ false
  pub no_win : ¬ WinsByFours rule limit b
  pub fits : four_cost rule limit b ≤ budget

-- what the depths come to at b: a win and its line, no win, or that there are more positions to look at than the budget
abbrev pub IsSoughtOut : RuleKind → ℕ → ℕ → Grid → Sought → Type 0
IsSoughtOut rule limit budget b (SoughtWin moves line) = IsSought rule limit budget b moves line
IsSoughtOut rule limit budget b SoughtNone = IsWithoutFours rule limit budget b
IsSoughtOut rule limit budget b SoughtSpent = budget < four_cost rule limit b

-- whether they come to a win
abbrev pub is_win : Sought → Bool
is_win (SoughtWin moves line) = true
is_win SoughtNone = false
is_win SoughtSpent = false

-- the most nodes that the search adds with this answer: two for each move of a win, and else none
abbrev pub most_added : FourAnswer → ℕ
most_added (Win win) = 2 * win.moves
most_added None = 0
most_added Spent = 0
