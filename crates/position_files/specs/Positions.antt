-- The text of a position, line by line, and which bytes are one.
use Rattle.std.specs.Prelude.{◌≡◌, ℕ, ◌==◌, if◌then◌else◌, List, [], ◌∷◌, ◌++◌, filter, codes}
use Rattle.std.specs.Fmt.{decimal}
use Rattle.game_rules.specs.Grid.{Grid, IsBoard, holds, points_of}
use Rattle.game_rules.specs.declared.RuleKind.{RuleKind}
use Rattle.game_rules.specs.declared.RuleKind.TheVariants.{Freestyle, Exact, Renju}
use Rattle.game_rules.specs.declared.Side.{Side}
use Rattle.game_rules.specs.declared.Side.TheVariants.{Black, White}
use Rattle.game_rules.specs.declared.Point.{Point}
use Rattle.position_files.specs.declared.PositionFile.{PositionFile}
use Rattle.text_lines.specs.Lines.{text_of}
use Rattle.text_lines.specs.Spellings.{pair_text, points_text}

-- the words of the rules
abbrev pub rule_word : RuleKind → List ℕ
rule_word Freestyle = codes "freestyle"
rule_word Exact = codes "exact"
rule_word Renju = codes "renju"

-- the width and the height, as one number where they are the same
abbrev pub size_text : ℕ → ℕ → List ℕ
size_text width height = if width == height then decimal width else pair_text width height

-- the points at which stones of the side stand, in reading order
unfoldable pub stones : Grid → Side → List Point
stones b s = filter (holds b s) (points_of b)

-- the lines of a rule and a board: its size, and each side's stones
unfoldable pub board_lines : RuleKind → Grid → List (List ℕ)
board_lines kind b =
    (codes "rule " ++ rule_word kind)
    ∷ (codes "size " ++ size_text b.width b.height)
    ∷ (codes "black" ++ points_text (stones b Black))
    ∷ (codes "white" ++ points_text (stones b White)) ∷ []

-- the text of a position
unfoldable pub position_text : RuleKind → Grid → List ℕ
position_text kind b = text_of (codes "renju-position 1" ∷ board_lines kind b)

-- the bytes are the text of the position
pub record IsTextOfPosition (file : PositionFile) (bytes : List ℕ) : Type 0 where
  pub board : IsBoard file.board
  pub spelled : bytes ≡ position_text file.kind file.board

-- the bytes are the text of some position
abbrev pub IsPositionText : List ℕ → Type 0
IsPositionText bytes = (file : PositionFile) × IsTextOfPosition file bytes
