-- The words of the rules, all in one place for the files of laws, and those that the laws alone need.
use Rattle.std.specs.Prelude.{ℕ, ◌≡◌, ◌⊎◌, ◌+◌, Bool, not, if◌then◌else◌, Option, Some, None}
use Rattle.std.specs.Option.{option_map_or}
use Rattle.game_rules.specs.declared.Foul.TheVariants.{Overline, DoubleFour, DoubleThree}
use Rattle.game_rules.specs.declared.Outcome.TheVariants.{Fouls, Draws}
pub use Rattle.game_rules.specs.Fours.{count_fours}
pub use Rattle.game_rules.specs.Games.{LosesOr, WinsAfter, WinsByFours, WinsByThreats, WinsOr, WinsUnder, WinsWithin, behind_replies}
pub use Rattle.game_rules.specs.Games.{five_points, has_five, has_threat, if_goes_on, loses_or, starts_win, wins_by_fours, wins_or}
unfoldable pub use Rattle.game_rules.specs.Games.{four_move, is_double_point, wins_under}
pub use Rattle.game_rules.specs.Grid.{Grid, IsBoard, along, axes, cell_at, empties_of, holds, is_empty, is_empty_cell, is_on, is_stone_of}
pub use Rattle.game_rules.specs.Grid.{lift, place_of, point_of, points_of, points_within, put, row_from, shift, stone_of, stones_of}
pub use Rattle.game_rules.specs.Lines.{is_aligned, same_line}
pub use Rattle.game_rules.specs.Play.{IsPosition, IsUnwon, after, foul_of, goes_on, goes_on_with, has_fouls, is_foul, is_win, mover, other}
pub use Rattle.game_rules.specs.Play.{saves}
unfoldable pub use Rattle.game_rules.specs.Play.{black_foul, black_foul_within, is_three, outcome, stone_foul}
pub use Rattle.game_rules.specs.Points.{precedes}
pub use Rattle.game_rules.specs.Shapes.{five, is_at, is_in_run, is_line_three_at, is_same_point, row_wins, run_of, stone_at, stones_ahead}
pub use Rattle.game_rules.specs.Shapes.{stones_behind, wins_at, wins_on}
unfoldable pub use Rattle.game_rules.specs.Shapes.{fours_of, gives_straight, is_line_three_point, is_straight, is_three_point}
pub use Rattle.game_rules.specs.Ways.{go, opposite, run_end, stones_towards, towards}
pub use Rattle.game_rules.specs.declared.Axis.{Axis}
pub use Rattle.game_rules.specs.declared.Axis.TheVariants.{Column, Down, Row, Up}
pub use Rattle.game_rules.specs.declared.Cell.{Cell}
pub use Rattle.game_rules.specs.declared.Cell.TheVariants.{Empty}
pub use Rattle.game_rules.specs.declared.Foul.{Foul}
pub use Rattle.game_rules.specs.declared.Outcome.{Outcome}
pub use Rattle.game_rules.specs.declared.Outcome.TheVariants.{GoesOn, Refused, Wins}
pub use Rattle.game_rules.specs.declared.Point.{Point}
pub use Rattle.game_rules.specs.declared.RuleKind.{RuleKind}
pub use Rattle.game_rules.specs.declared.Side.{Side}
pub use Rattle.game_rules.specs.declared.Side.TheVariants.{Black, White}
pub use Rattle.game_rules.specs.declared.Way.{Way}
pub use Rattle.game_rules.specs.declared.Way.TheVariants.{Ahead, Behind}

-- what the four facts about Black's stone make of it, asked in the order of stone_foul
abbrev pub first_foul : Bool → Bool → Bool → Bool → Option Foul
first_foul exactly_five over fours threes = if exactly_five then None
    else if over then Some Overline
    else if fours then Some DoubleFour
    else if threes then Some DoubleThree
    else None

-- what the four facts about a move make of it, asked in the order of outcome
abbrev pub outcome_by : Bool → Bool → Option Foul → Bool → Outcome
outcome_by empty wins foul last = if not empty then Refused
    else if wins then Wins
    else option_map_or Fouls foul (if last then Draws else GoesOn)

-- the counts name a side to move, as those of a lawful position do
abbrev pub NamesMover : Grid → Type 0
NamesMover b = (stones_of b Black ≡ stones_of b White) ⊎ (stones_of b Black ≡ stones_of b White + 1)

-- more than the points of any line of the board
abbrev pub line_bound : Grid → ℕ
line_bound b = b.width + b.height

-- whether place i of the line around p holds a stone of the side; place 4 is p
abbrev pub place_stone : Grid → Side → Axis → Point → ℕ → Bool
place_stone b s d p i = stone_at b s (along d p i 4)

-- whether a stone of the side on place i of the line around p makes a winning run on the line
abbrev pub place_wins : RuleKind → Grid → Side → Axis → Point → ℕ → Bool
place_wins rule b s d p i = wins_at rule b s d (along d p i 4)
