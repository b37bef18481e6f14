-- What one search of the game of continuous fours within some moves gives.
use Rattle.std.specs.Prelude.{ℕ, zero, suc, ◌-◌, Bool, nat_le, if◌then◌else◌, List, [], ◌∷◌, ◌++◌, Option, Some, None}
use Rattle.game_rules.specs.Grid.{Grid}
use Rattle.game_rules.specs.Play.{mover, after}
use Rattle.game_rules.specs.Games.{has_five, wins_by_fours, four_move}
use Rattle.game_rules.specs.declared.RuleKind.{RuleKind}
use Rattle.game_rules.specs.declared.Point.{Point}
use Rattle.threat_moves.specs.declared.block.BlockAnswer.{BlockAnswer}
use Rattle.threat_moves.specs.declared.block.BlockAnswer.TheVariants.{Lost, Won, Draw, One}
use Rattle.threat_moves.specs.Blocks.{fate}
use Rattle.threat_moves.specs.FourMoves.{is_four_move}
use Rattle.threat_moves.specs.OneBlock.{block_wins}
use Rattle.four_search.specs.declared.search.Found.{Found}
use Rattle.four_search.specs.declared.search.Found.TheVariants.{Win, NoWin, Spent}
use Rattle.four_search.specs.FourGame.{if_one, four_tree}

-- what is found with this budget where so many positions are to be looked at
abbrev pub found_by : ℕ → ℕ → Bool → List Point → Found
found_by budget positions wins line =
    if nat_le positions budget then (if wins then Win (budget - positions) line else NoWin (budget - positions)) else Spent

-- the line after a four at c: that at the board after its one block, if it has one that goes on
abbrev pub line_behind : (Grid → List Point) → Grid → BlockAnswer → List Point
line_behind line c Lost = []
line_behind line c Won = []
line_behind line c (Draw w) = []
line_behind line c (One w) = line (after c w)

-- the line of the chosen move p at b: what follows it, and then p
abbrev pub line_from : RuleKind → Grid → (Grid → List Point) → Option Point → List Point
line_from rule b line None = []
line_from rule b line (Some p) = line_behind line (after b p) (fate rule (after b p)) ++ p ∷ []

-- the chosen moves of a win by fours within n moves against the one block each time, up to a five point or a four that has
-- won, the last one first
unfoldable pub four_line : RuleKind → ℕ → Grid → List Point
four_line rule zero b = []
four_line rule (suc n) b = if has_five rule b (mover b) then [] else line_from rule b (four_line rule n) (four_move rule (suc n) b)

-- the positions behind a four at c where the attacker has n more moves
abbrev pub positions_behind : RuleKind → ℕ → Grid → ℕ
positions_behind rule zero c = 0
positions_behind rule (suc n) c = if_one (four_tree rule (suc n)) c (fate rule c)

-- what a search within n moves finds at b
abbrev pub found_at : RuleKind → ℕ → Grid → ℕ → Found
found_at rule n b budget = found_by budget (four_tree rule n b) (wins_by_fours rule n b) (four_line rule n b)

-- what is found behind the four move p where the attacker has n more moves
abbrev pub found_behind : RuleKind → ℕ → Grid → Point → ℕ → Found
found_behind rule n b p budget =
    found_by budget (positions_behind rule n (after b p)) (block_wins rule n (after b p) (fate rule (after b p)))
    (line_from rule b (four_line rule n) (Some p))

-- what is found at the move p: what is behind it where it is a four move, and else no win
abbrev pub found_trying : RuleKind → ℕ → Grid → Point → ℕ → Found
found_trying rule n b p budget = if is_four_move rule b p then found_behind rule n b p budget else NoWin budget

-- what is found after a four at c where the attacker has n more moves; the line is that after the four
abbrev pub found_answering : RuleKind → ℕ → Grid → ℕ → Found
found_answering rule n c budget =
    found_by budget (positions_behind rule n c) (block_wins rule n c (fate rule c)) (line_behind (four_line rule n) c (fate rule c))
