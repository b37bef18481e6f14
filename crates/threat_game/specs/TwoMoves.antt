-- Moves that may win within two, where the other side may have five points.
use Rattle.std.specs.Prelude.{Bool, ◌&&◌}
use Rattle.game_rules.specs.Grid.{Grid}
use Rattle.game_rules.specs.Play.{outcome, goes_on}
use Rattle.game_rules.specs.declared.RuleKind.{RuleKind}
use Rattle.game_rules.specs.declared.Point.{Point}
use Rattle.row_shapes.specs.FivePoints.{takes}
use Rattle.row_shapes.specs.declared.fives.FivePoints.{FivePoints}

-- whether the move takes these five points of the other side and goes on
abbrev pub counters : RuleKind → Grid → FivePoints → Point → Bool
counters rule b threat p = takes threat p && goes_on (outcome rule b p)
