-- The shapes of Black's stone, its threes, and three points at which Black has no foul, place by place.
use Rattle.std.specs.Prelude.{Bool, false, ◌&&◌, Option, Some, None, is_none, nat_le, List, map}
use Rattle.std.specs.List.{count_by}
use Rattle.game_rules.specs.Grid.{Grid, axes}
use Rattle.game_rules.specs.Shapes.{is_three_point}
use Rattle.game_rules.specs.Play.{black_foul, is_three}
use Rattle.game_rules.specs.declared.RuleKind.{RuleKind}
use Rattle.game_rules.specs.declared.Side.TheVariants.{Black}
use Rattle.game_rules.specs.declared.Axis.{Axis}
use Rattle.game_rules.specs.declared.Point.{Point}
use Rattle.row_shapes.specs.declared.shapes.Shape.{Shape}
use Rattle.row_shapes.specs.LineShapes.{stone_shape}

-- the shapes of Black's stone on p, in the order of the axes
abbrev pub stone_shapes : RuleKind → Grid → Point → List Shape
stone_shapes rule b p = map (λ d. stone_shape rule b Black d p) axes

-- whether two axes or more are threes of Black's stone on p
abbrev pub two_threes : RuleKind → Grid → Point → Bool
two_threes rule b p = nat_le 2 (count_by (λ d. is_three rule b d p (black_foul rule b)) axes)

-- whether there is such a point, it is a three point of Black's stone on p, and Black has no foul there
abbrev pub free_three : RuleKind → Grid → Axis → Point → Option Point → Bool
free_three rule b d p None = false
free_three rule b d p (Some q) = is_three_point rule b Black d p q && is_none (black_foul rule b q)
