-- Moves that make threes.
use Rattle.std.specs.Prelude.{Bool, true, false, ◌&&◌, not, List}
use Rattle.std.specs.List.{list_any, filter}
use Rattle.game_rules.specs.Grid.{Grid, put, points_of}
use Rattle.game_rules.specs.Play.{outcome, mover, goes_on_with}
use Rattle.game_rules.specs.Games.{has_five, is_double_point}
use Rattle.game_rules.specs.declared.RuleKind.{RuleKind}
use Rattle.game_rules.specs.declared.Side.{Side}
use Rattle.game_rules.specs.declared.Point.{Point}

-- whether the side has a double point
abbrev pub has_double_point : RuleKind → Grid → Side → Bool
has_double_point rule b s = list_any (is_double_point rule b s) (points_of b)

-- whether the side has no five point but a double point
abbrev pub has_double_point_alone : RuleKind → Grid → Side → Bool
has_double_point_alone rule b s = not (has_five rule b s) && has_double_point rule b s

-- whether a stone of the side on p leaves it no five point but a double point
abbrev pub makes_double_point : RuleKind → Grid → Side → Point → Bool
makes_double_point rule b s p = has_double_point_alone rule (put b s p) s

-- a three move: it goes on, and after it the side that made it has no five point but a double point
unfoldable pub is_three_move : RuleKind → Grid → Point → Bool
is_three_move rule b p = goes_on_with (outcome rule b p) (makes_double_point rule b (mover b) p)

-- the three moves of the side to move, in reading order
abbrev pub three_moves : RuleKind → Grid → List Point
three_moves rule b = filter (is_three_move rule b) (points_of b)
