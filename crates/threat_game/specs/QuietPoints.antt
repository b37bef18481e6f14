-- Points with too few stones of Black within reach for a foul or a five.
use Rattle.std.specs.Prelude.{◌≡◌, ◌<◌, true, false}
use Rattle.game_rules.specs.Grid.{Grid, is_empty}
use Rattle.game_rules.specs.Shapes.{is_same_point}
use Rattle.game_rules.specs.declared.Side.TheVariants.{Black}
use Rattle.game_rules.specs.declared.Axis.{Axis}
use Rattle.game_rules.specs.declared.Point.{Point}
use Rattle.row_shapes.specs.Reach.{stones_in_reach}

-- an empty point with fewer than two stones of Black within reach on each axis
pub record IsQuiet (b : Grid) (q : Point) : Type 0 where
  pub empty : is_empty b q ≡ true
  pub few : (d : Axis) → stones_in_reach b Black d q < 2

-- two of them
pub record HasTwoQuiet (b : Grid) : Type 0 where
  pub first : Point
  pub second : Point
  pub apart : is_same_point first second ≡ false
  pub first_quiet : IsQuiet b first
  pub second_quiet : IsQuiet b second
