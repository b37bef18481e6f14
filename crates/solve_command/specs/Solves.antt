-- The command `solve`: its words, what it says of its input, and what its statuses show.
use Rattle.std.specs.Prelude.{◌≡◌, ◌⊎◌, ℕ, ◌*◌, ◌≤◌, ◌<◌, min, true, List, [], ◌∷◌, length, codes}
use Rattle.std.specs.Prelude.{Option, Some, IfSome}
use Rattle.std.specs.Fmt.{decimal}
use Rattle.game_rules.specs.Games.{WinsByFours, WinsByThreats, WinsWithin}
use Rattle.game_rules.specs.Grid.{Grid}
use Rattle.game_rules.specs.declared.RuleKind.{RuleKind}
use Rattle.game_rules.specs.declared.Point.{Point}
use Rattle.strategy_graph.specs.declared.TheConstants.{MAX_NODES}
use Rattle.strategy_graph.specs.Tables.{depth}
use Rattle.four_search.specs.FourGame.{four_cost}
use Rattle.threat_moves.specs.declared.threat_list.Threat.{Threat}
use Rattle.threat_space.specs.declared.TheConstants.{MAX_LENGTH}
use Rattle.line_proof.specs.Lines.{line_wins, line_tree}
use Rattle.threat_game.specs.ThreatGame.{threat_tree}
use Rattle.threat_game.specs.Wins.{IsThreatWin}
use Rattle.proof_number.specs.Denials.{HasDenial}
use Rattle.proof_number.specs.SearchTrees.{HasDisproved, HasRunOut}
use Rattle.proof_number.specs.ThreatWins.{threat_wins}
use Rattle.proof_tree.specs.Trees.{Tree}
use Rattle.position_files.specs.declared.PositionFile.{PositionFile}
use Rattle.renju_io.specs.Told.{Takes}
use Rattle.command_base.specs.declared.status.Status.{Status}
use Rattle.command_base.specs.declared.status.Status.TheVariants.{Done, Spent, NotFound, Full}
use Rattle.solve_command.specs.declared.solve.Searched.{Searched}
use Rattle.solve_command.specs.declared.solve.Searched.TheVariants.{Win, None as NoWin, Spent as OverBudget, Full as NoRoom}
use Rattle.command_base.specs.Statuses.{status_number}
use Rattle.command_base.specs.Texts.{spent_line, none_line, full_line}
use Rattle.command_base.specs.Runs.{Change, Run}
use Rattle.command_base.specs.Told.{IsYielded}
use Rattle.command_base.specs.Positions.{PositionCommand}
use Rattle.command_base.specs.Searches.{ShowsOfPosition}
use Rattle.position_commands.specs.Threats.{sequence_at, cost_at}
use Rattle.position_commands.specs.Fours.{AreLimits, IsFoundWin, IsWinText}

-- the win of the first step: there is a win by fours, and the budget is enough for the search of it
pub record IsWonByFours (limit nodes : ℕ) (file : PositionFile) : Type 0 where
  pub wins : WinsByFours file.kind limit file.board
  pub enough : four_cost file.kind limit file.board ≤ nodes

-- the threats of the first sequence of the side to move of at most as many threats as moves, and no more than MAX_LENGTH, for whose
-- search the budget is enough
pub record IsFirstLine (limit nodes : ℕ) (file : PositionFile) (line : List Threat) : Type 0 where
  pub final : Point
  pub first : sequence_at (min limit MAX_LENGTH) file ≡ Some (line, final)
  pub enough : cost_at (min limit MAX_LENGTH) file ≤ nodes

-- the win of the second step: the first sequence is found within the budget, and wins along its threats
pub record IsWonByLine (limit nodes : ℕ) (file : PositionFile) : Type 0 where
  pub line : List Threat
  pub first : IsFirstLine limit nodes file line
  pub wins : line_wins file.kind line limit file.board ≡ true

-- the win of the first step is what `fours` writes: its table has at most two nodes for each move
pub record IsFirstWin (limit nodes : ℕ) (file : PositionFile) (status : Status) (text : List ℕ) : Type 0 where
  pub found : IsFoundWin limit nodes file status text
  pub win : IsWinText limit file text
  pub few : length win.table ≤ 2 * limit

-- the first step has no win, and that of the second is written, in no more nodes than a proof of it may need
pub record IsLineWin (limit nodes : ℕ) (file : PositionFile) (status : Status) (text : List ℕ) : Type 0 where
  pub later : ¬ IsWonByFours limit nodes file
  pub along : IsWonByLine limit nodes file
  pub win : IsWinText limit file text
  pub few : length win.table ≤ line_tree file.kind along.line limit file.board
  pub ends : status ≡ Done

-- no win of the first two steps
pub record IsLeftOver (limit nodes : ℕ) (file : PositionFile) : Type 0 where
  pub no_fours : ¬ IsWonByFours limit nodes file
  pub no_line : ¬ IsWonByLine limit nodes file

-- the first two steps have no win, there is one by threats, and it is written, in no more nodes than the budget and than positions of the
-- game of threats are won
pub record IsThreatsWin (limit nodes : ℕ) (file : PositionFile) (status : Status) (text : List ℕ) : Type 0 where
  pub left : IsLeftOver limit nodes file
  pub by_threats : WinsByThreats file.kind limit file.board
  pub win : IsWinText limit file text
  pub few : length win.table ≤ min nodes (threat_wins file.kind limit file.board)
  pub ends : status ≡ Done

-- the first two steps have no win, and there is none by threats: a denial shows it, of no more positions than may be counted, the lesser
-- of the budget and of those of the game of threats; and there is a tree of that game whose root is disproved
pub record IsWithoutWin (limit nodes : ℕ) (file : PositionFile) (status : Status) (text : List ℕ) : Type 0 where
  pub left : IsLeftOver limit nodes file
  pub none : ¬ WinsByThreats file.kind limit file.board
  pub denial : HasDenial file.kind limit file.board (min nodes (threat_tree file.kind limit file.board))
  pub looked : (t : Tree) × HasDisproved file.kind limit nodes file.board t
  pub ends : status ≡ NotFound
  pub line : text ≡ none_line

-- the first two steps have no win, the game of threats has more positions than the budget, and the search of it within all of the moves
-- has run out
pub record IsUndecided (limit nodes : ℕ) (file : PositionFile) (status : Status) (text : List ℕ) : Type 0 where
  pub left : IsLeftOver limit nodes file
  pub more : nodes < threat_tree file.kind limit file.board
  pub ran_out : (t : Tree) × HasRunOut file.kind limit nodes file.board t
  pub ends : status ≡ Spent
  pub line : text ≡ spent_line

-- more nodes than a table has may be needed: for the proof of the first sequence, or, where the first two steps have no win, since both
-- the budget and the won positions of the game of threats are more
abbrev pub MayBeTooGreat : ℕ → ℕ → PositionFile → Type 0
MayBeTooGreat limit nodes file =
    ((line : List Threat) × IsFirstLine limit nodes file line × (MAX_NODES < line_tree file.kind line limit file.board))
    ⊎ (IsLeftOver limit nodes file × (MAX_NODES < min nodes (threat_wins file.kind limit file.board)))

-- the first step has no win, and a later one has no room for its table
pub record IsTooGreat (limit nodes : ℕ) (file : PositionFile) (status : Status) (text : List ℕ) : Type 0 where
  pub later : ¬ IsWonByFours limit nodes file
  pub great : MayBeTooGreat limit nodes file
  pub ends : status ≡ Full
  pub line : text ≡ full_line

-- What is said of a position within so many moves and with so many positions to look at: the win of the first step, which is that
-- of `fours`; that of the second or of the third; or why there is none.
abbrev pub SolutionSays : ℕ → ℕ → PositionFile → Status → List ℕ → Type 0
SolutionSays limit nodes file status text =
    IsFirstWin limit nodes file status text
    ⊎ IsLineWin limit nodes file status text
    ⊎ IsThreatsWin limit nodes file status text
    ⊎ IsWithoutWin limit nodes file status text
    ⊎ IsUndecided limit nodes file status text
    ⊎ IsTooGreat limit nodes file status text

-- What a search for a win by threats within so many moves, with so many positions to look at, comes to. The compiler of a win has no
-- more nodes than the budget and than positions of the game of threats are won, and a denial no more positions than may be counted. Over
-- the budget it is the search within these moves that has run out.
abbrev pub IsToldByThreats : RuleKind → ℕ → ℕ → Grid → Searched → Type 0
IsToldByThreats rule limit nodes b (Win compiler win) =
    IsThreatWin rule limit b compiler win × (length compiler ≤ min nodes (threat_wins rule limit b))
IsToldByThreats rule limit nodes b NoWin =
    (¬ WinsByThreats rule limit b) × HasDenial rule limit b (min nodes (threat_tree rule limit b))
    × ((t : Tree) × HasDisproved rule limit nodes b t)
IsToldByThreats rule limit nodes b OverBudget = (nodes < threat_tree rule limit b) × ((t : Tree) × HasRunOut rule limit nodes b t)
IsToldByThreats rule limit nodes b NoRoom = MAX_NODES < min nodes (threat_wins rule limit b)

-- the words `solve DEPTH NODES`, with both numbers in decimal without leading zeros
abbrev pub solve_words : ℕ → ℕ → List (List ℕ)
solve_words depth nodes = codes "solve" ∷ decimal depth ∷ decimal nodes ∷ []

-- `solve DEPTH NODES`. It answers for a lawful position whose game of threats has no more positions than are allowed: it finds a
-- win or none, or has no room for a table.
abbrev pub solve_command : ℕ → ℕ → PositionCommand
solve_command depth nodes = record {
  words = solve_words depth nodes;
  in_range = AreLimits depth nodes;
  Says = SolutionSays depth nodes;
  IsEnough = λ file. threat_tree file.kind depth file.board ≤ nodes;
  IsAnswer = λ status. (status ≡ Done) ⊎ (status ≡ NotFound) ⊎ (status ≡ Full);
}

-- The side to move wins within the limit in one of the ways that are searched, and so many nodes are no more than that way may need: by
-- fours, two for each move; along its first sequence of threats, for whose search the budget is enough, those of a proof; or by
-- threats whatever the order, one for each position of the game of threats that is won, and no more than the budget.
abbrev pub IsWonByAStep : ℕ → ℕ → PositionFile → ℕ → Type 0
IsWonByAStep limit nodes file count =
    (IsWonByFours limit nodes file × (count ≤ 2 * limit))
    ⊎ ((along : IsWonByLine limit nodes file) × (count ≤ line_tree file.kind along.line limit file.board))
    ⊎ (WinsByThreats file.kind limit file.board × (count ≤ min nodes (threat_wins file.kind limit file.board)))

-- The output took the text of a table whose last node is accepted, whole, and the side to move wins within the limit, in one of the
-- ways that are searched, for which the table has no more nodes than it may need.
pub record WritesSolution (limit nodes : ℕ) (file : PositionFile) (output : Change (Option (List ℕ))) : Type 0 where
  pub text : List ℕ
  pub win : IsWinText limit file text
  pub way : IsWonByAStep limit nodes file (length win.table)
  pub whole : Takes output.before text output.after
  pub wins : WinsWithin file.kind limit file.board

-- the statuses of `solve` that speak of a position
abbrev pub SpeaksOfSolution : ℕ → Type 0
SpeaksOfSolution number = (number ≡ status_number Done) ⊎ (number ≡ status_number NotFound) ⊎ (number ≡ status_number Spent) ⊎
    (number ≡ status_number Full)

-- What the statuses of `solve` say of the lawful position that is the input: 0 that the table of a win by fours, along a sequence or by
-- threats is written; 9 that there is no win by threats, and that a denial shows it of no more positions than may be counted, the lesser of
-- the budget and those of the game of threats; 5 that this game has more positions than the budget; 12 that a table may have too many
-- nodes.
-- One of them comes, unless the status is one that stands in place of each. Where the first step has a win it is 0, and where the second
-- has one 0 or 12.
pub record IsSolved (limit nodes : ℕ) (file : PositionFile) (run : Run) : Type 0 where
  pub won : run.status ≡ status_number Done → WritesSolution limit nodes file run.output
  pub none : run.status ≡ status_number NotFound → ¬ WinsByThreats file.kind limit file.board
  pub denial : run.status ≡ status_number NotFound
      → HasDenial file.kind limit file.board (min nodes (threat_tree file.kind limit file.board))
  pub spent : run.status ≡ status_number Spent → nodes < threat_tree file.kind limit file.board
  pub full : run.status ≡ status_number Full → MayBeTooGreat limit nodes file
  pub by_fours : IsWonByFours limit nodes file → (run.status ≡ status_number Done) ⊎ IsYielded run.status
  pub by_line : IsWonByLine limit nodes file → (run.status ≡ status_number Done) ⊎ (run.status ≡ status_number Full) ⊎ IsYielded run.status
  pub only : SpeaksOfSolution run.status ⊎ IsYielded run.status

-- The headline of the solver: what the statuses of `solve` show, where the input tells its bytes.
abbrev pub ShowsSolution : Run → Type 0
ShowsSolution run =
    (depth nodes : ℕ) → run.words ≡ solve_words depth nodes → AreLimits depth nodes
    → IfSome run.input.before (ShowsOfPosition (SpeaksOfSolution run.status) (λ file. IsSolved depth nodes file run))
