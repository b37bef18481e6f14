-- The command `quiet`: its words, what it says of its input, and what its statuses show.
use Rattle.std.specs.Prelude.{◌≡◌, ◌⊎◌, ℕ, ◌≤◌, ◌<◌, min, List, [], ◌∷◌, length, codes, Option, IfSome}
use Rattle.std.specs.Fmt.{decimal}
use Rattle.game_rules.specs.Games.{WinsByThreats, WinsWithin}
use Rattle.game_rules.specs.Grid.{Grid}
use Rattle.game_rules.specs.declared.RuleKind.{RuleKind}
use Rattle.strategy_graph.specs.declared.Node.{Node}
use Rattle.strategy_graph.specs.Tables.{TableOnBoard, depth}
use Rattle.strategy_graph.specs.Acceptance.{Accepted}
use Rattle.strategy_compiler.specs.Walks.{AreDifferent, Reaches, last}
use Rattle.threat_game.specs.ThreatGame.{threat_tree}
use Rattle.position_files.specs.declared.PositionFile.{PositionFile}
use Rattle.renju_io.specs.Told.{Takes}
use Rattle.command_base.specs.declared.status.Status.{Status}
use Rattle.command_base.specs.declared.status.Status.TheVariants.{Done, Spent, NotFound, Full}
use Rattle.command_base.specs.Statuses.{status_number}
use Rattle.command_base.specs.Texts.{spent_line, none_line}
use Rattle.command_base.specs.Runs.{Change, Run}
use Rattle.command_base.specs.Told.{IsYielded}
use Rattle.command_base.specs.Positions.{PositionCommand}
use Rattle.command_base.specs.Searches.{ShowsOfPosition}
use Rattle.position_commands.specs.Fours.{AreLimits, IsWinText}
use Rattle.proof_number.specs.Denials.{HasDenial}
use Rattle.solve_command.specs.Solves.{IsLeftOver, IsUndecided, IsWithoutWin, IsWonByFours, IsWonByLine, MayBeTooGreat, SolutionSays}
use Rattle.solve_command.specs.Solves.{WritesSolution}

-- `solve` with the same numbers may say `none` or `spent`: its first two steps have no win, and the game of threats has none either, or
-- has more positions than the budget, and the search of it has run out
abbrev pub IsUnsolved : ℕ → ℕ → PositionFile → Type 0
IsUnsolved limit nodes file = IsWithoutWin limit nodes file NotFound none_line ⊎ IsUndecided limit nodes file Spent spent_line

-- `solve` with the same numbers may say this, which is a win, or that a table has no room
pub record IsSolution (limit nodes : ℕ) (file : PositionFile) (status : Status) (text : List ℕ) : Type 0 where
  pub says : SolutionSays limit nodes file status text
  pub decides : (status ≡ Done) ⊎ (status ≡ Full)

-- `solve` may say `none` or `spent`, and a win is written: by which moves is not said
pub record IsQuietWin (limit nodes : ℕ) (file : PositionFile) (status : Status) (text : List ℕ) : Type 0 where
  pub unsolved : IsUnsolved limit nodes file
  pub win : IsWinText limit file text
  pub ends : status ≡ Done

-- `solve` may say `none` or `spent`, and no table was found: of other wins this says nothing
pub record IsUnfound (limit nodes : ℕ) (file : PositionFile) (status : Status) (text : List ℕ) : Type 0 where
  pub unsolved : IsUnsolved limit nodes file
  pub ends : status ≡ Spent
  pub line : text ≡ spent_line

-- What is said of a position within so many moves and with so many positions to look at: what `solve` may say with the same numbers, if
-- that is a win or that a table has no room; or, where `solve` may say `none` or `spent`, a win, or that none was found.
abbrev pub QuietSays : ℕ → ℕ → PositionFile → Status → List ℕ → Type 0
QuietSays limit nodes file status text =
    IsSolution limit nodes file status text ⊎ IsQuietWin limit nodes file status text ⊎ IsUnfound limit nodes file status text

-- a table that is not empty, whose last node reaches each, and in which no two are equal
pub record IsFinished (t : List Node) : Type 0 where
  pub some : 0 < length t
  pub different : AreDifferent t
  pub reached : (i : ℕ) → i < length t → Reaches t (last t) i

-- the last node of the table is accepted at b and has this depth, no more than the limit, and each node names points of the board alone
pub record IsCheckedTable (rule : RuleKind) (limit : ℕ) (b : Grid) (t : List Node) (moves : ℕ) : Type 0 where
  pub within : moves ≤ limit
  pub accepted : Accepted rule t (last t) b
  pub deep : depth t (last t) ≡ moves
  pub on_board : TableOnBoard b t

-- `solve` with the same numbers is sure of a win: there is one by fours, and the budget is enough for the search of it; one along the first
-- sequence that is found within the budget; or one by threats, and the game of threats has no more positions than the budget
abbrev pub IsSureWin : ℕ → ℕ → PositionFile → Type 0
IsSureWin limit nodes file =
    IsWonByFours limit nodes file ⊎ IsWonByLine limit nodes file
    ⊎ (WinsByThreats file.kind limit file.board × (threat_tree file.kind limit file.board ≤ nodes))

-- the first two steps of `solve` with the same numbers have no win, and there is none by threats, which a denial shows of no more positions
-- than may be counted, or the game of threats has more positions than the budget
abbrev pub IsUnsure : ℕ → ℕ → PositionFile → Type 0
IsUnsure limit nodes file =
    IsLeftOver limit nodes file
    × (((¬ WinsByThreats file.kind limit file.board)
    × HasDenial file.kind limit file.board (min nodes (threat_tree file.kind limit file.board)))
    ⊎ (nodes < threat_tree file.kind limit file.board))

-- the words `quiet DEPTH NODES`, with both numbers in decimal without leading zeros
abbrev pub quiet_words : ℕ → ℕ → List (List ℕ)
quiet_words depth nodes = codes "quiet" ∷ decimal depth ∷ decimal nodes ∷ []

-- `quiet DEPTH NODES`. It answers for a lawful position at which `solve` is sure of a win: it finds one, or has no room for a table.
abbrev pub quiet_command : ℕ → ℕ → PositionCommand
quiet_command depth nodes = record {
  words = quiet_words depth nodes;
  in_range = AreLimits depth nodes;
  Says = QuietSays depth nodes;
  IsEnough = IsSureWin depth nodes;
  IsAnswer = λ status. (status ≡ Done) ⊎ (status ≡ Full);
}

-- The output took the text of a table whose last node is accepted, whole, where `solve` may say `none` or `spent`, and the side to move
-- wins within the limit.
pub record WritesQuietWin (limit nodes : ℕ) (file : PositionFile) (output : Change (Option (List ℕ))) : Type 0 where
  pub unsure : IsUnsure limit nodes file
  pub text : List ℕ
  pub win : IsWinText limit file text
  pub whole : Takes output.before text output.after
  pub wins : WinsWithin file.kind limit file.board

-- the statuses of `quiet` that speak of a position
abbrev pub SpeaksOfQuietWin : ℕ → Type 0
SpeaksOfQuietWin number = (number ≡ status_number Done) ⊎ (number ≡ status_number Spent) ⊎ (number ≡ status_number Full)

-- What the statuses of `quiet` say of the lawful position that is the input: 0 that the table of a win is written, of a way of `solve`, or
-- any other where `solve` may say `none` or `spent`; 5 that `solve` may say so; 12 that a table of `solve` may have too many nodes. One of
-- them comes, unless the status is one that stands in place of each. Where the first step of `solve` has a win it is 0, and where `solve`
-- is sure of one 0 or 12.
pub record IsQuietlySolved (limit nodes : ℕ) (file : PositionFile) (run : Run) : Type 0 where
  pub won : run.status ≡ status_number Done → WritesSolution limit nodes file run.output ⊎ WritesQuietWin limit nodes file run.output
  pub spent : run.status ≡ status_number Spent → IsUnsure limit nodes file
  pub full : run.status ≡ status_number Full → MayBeTooGreat limit nodes file
  pub by_fours : IsWonByFours limit nodes file → (run.status ≡ status_number Done) ⊎ IsYielded run.status
  pub sure : IsSureWin limit nodes file
      → (run.status ≡ status_number Done) ⊎ (run.status ≡ status_number Full) ⊎ IsYielded run.status
  pub only : SpeaksOfQuietWin run.status ⊎ IsYielded run.status

-- The headline of the search for quiet moves: what the statuses of `quiet` show, where the input tells its bytes.
abbrev pub ShowsQuietWin : Run → Type 0
ShowsQuietWin run =
    (depth nodes : ℕ) → run.words ≡ quiet_words depth nodes → AreLimits depth nodes
    → IfSome run.input.before (ShowsOfPosition (SpeaksOfQuietWin run.status) (λ file. IsQuietlySolved depth nodes file run))
