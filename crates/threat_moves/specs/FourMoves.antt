-- Moves that make fours.
use Rattle.std.specs.Prelude.{Bool, List}
use Rattle.std.specs.List.{filter}
use Rattle.game_rules.specs.Grid.{Grid, points_of}
use Rattle.game_rules.specs.Play.{outcome, goes_on_with, mover, after}
use Rattle.game_rules.specs.Games.{has_five}
use Rattle.game_rules.specs.declared.RuleKind.{RuleKind}
use Rattle.game_rules.specs.declared.Point.{Point}

-- a four move: it goes on, and after it the side that made it has a five point
unfoldable pub is_four_move : RuleKind → Grid → Point → Bool
is_four_move rule b p = goes_on_with (outcome rule b p) (has_five rule (after b p) (mover b))

-- the four moves of the side to move, in reading order
abbrev pub four_moves : RuleKind → Grid → List Point
four_moves rule b = filter (is_four_move rule b) (points_of b)
