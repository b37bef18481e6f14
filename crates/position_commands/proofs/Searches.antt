-- What is said of a position, where the search of fours ran at its board.
use Rattle.std.proofs.Common.{◌≡◌, true, ℕ, ◌≤◌, ◌∙◌, List, [], length, length-append, Result, IfOk, rules}
use Rattle.position_commands.proofs.Common.{Grid, RuleKind, Node, PositionFile, IsTextOfTable, Answer, Done, IsFourText, IsWinText}
use Rattle.position_commands.proofs.Common.{SearchSays, table_at}
use Rattle.game_rules.proofs.Common.{WinsByFours, WinsWithin}
use Rattle.game_rules.proofs.Games.{WinsUnder-more}
use Rattle.strategy_graph.proofs.Soundness.{accepted-wins}
use Rattle.strategy_compiler.proofs.Common.{GrowsBy, last}
use Rattle.four_search.specs.declared.fewest.FourTable.{FourTable}
use Rattle.four_search.specs.Answers.{IsFourWin}
use Rattle.four_search.specs.FewestWins.{IsFoundTable, IsFourTable as IsMade}
use Rattle.four_search.specs.FourGame.{four_cost}
use Rattle.command_base.specs.declared.status.Status.TheVariants.{NotFound}
use Rattle.command_base.specs.Texts.{none_line}
use Rattle.command_base.specs.Positions.{file_at}

-- a new compiler has no more nodes than are added
pub new-few : (t c : List Node) (most : ℕ) → t ≡ [] → GrowsBy t c most → length c ≤ most
new-few t c most new grows = search (rules, length-append)

-- the side to move wins within the limit of a text of a win
pub text-wins : (limit : ℕ) (file : PositionFile) (text : List ℕ) → IsWinText limit file text → WinsWithin file.kind limit file.board
text-wins limit file text win =
    WinsUnder-more (λ c s. true) file.kind win.moves limit file.board win.within
    (rw win.deep at (accepted-wins file.kind win.table (last win.table) file.board win.accepted))

-- the win is at the last node of its table
pub wins-last : (rule : RuleKind) (limit : ℕ) (b : Grid) (made : FourTable) → IsMade rule limit b made
    → IsFourWin rule limit b made.table (record { node = last made.table; moves = made.moves })
wins-last rule limit b made is = search rules

-- the text of the table of a win by fours
pub four-text : (rule : RuleKind) (limit : ℕ) (b : Grid) (made : FourTable) → IsMade rule limit b made → (text : List ℕ)
    → IsTextOfTable (table_at (file_at rule b) made.moves made.table) text → IsFourText limit (file_at rule b) text
four-text rule limit b made is text written = search (rules, wins-last)

-- the answer that has it is what is said of the position
pub win-says : {E : Type 0} (r : Result Answer E) (limit nodes : ℕ) (rule : RuleKind) (b : Grid) (made : FourTable)
    → IsFoundTable rule limit nodes b made → IfOk r (λ a. a.status ≡ Done)
    → IfOk r (λ a. IsTextOfTable (table_at (file_at rule b) made.moves made.table) a.text)
    → IfOk r (λ a. SearchSays limit nodes (file_at rule b) a.status a.text)
win-says r limit nodes rule b made is done text = search (rules, four-text)

-- the answer that there is none is what is said of the position
pub none-says : (a : Answer) (limit nodes : ℕ) (rule : RuleKind) (b : Grid) → ¬ WinsByFours rule limit b
    → four_cost rule limit b ≤ nodes → a.status ≡ NotFound → a.text ≡ none_line → SearchSays limit nodes (file_at rule b) a.status a.text
none-says a limit nodes rule b none enough status text = search rules
