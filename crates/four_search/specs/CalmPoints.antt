-- Points at which Black's stone is no foul, wherever White plays first.
use Rattle.std.specs.Prelude.{◌≡◌, ◌<◌, true, false}
use Rattle.game_rules.specs.Grid.{Grid, is_empty}
use Rattle.game_rules.specs.Shapes.{is_same_point}
use Rattle.game_rules.specs.declared.Axis.{Axis}
use Rattle.game_rules.specs.declared.Point.{Point}
use Rattle.game_rules.specs.declared.Side.TheVariants.{Black}
use Rattle.row_shapes.specs.Reach.{stones_in_reach}

-- the point is empty, and on each axis fewer than two stones of Black are within reach of it
pub record IsCalm (b : Grid) (p : Point) : Type 0 where
  pub empty : is_empty b p ≡ true
  pub few : (d : Axis) → stones_in_reach b Black d p < 2

-- two points are so
pub record HasCalmPoints (b : Grid) : Type 0 where
  pub one : Point
  pub more : Point
  pub apart : is_same_point more one ≡ false
  pub one_calm : IsCalm b one
  pub more_calm : IsCalm b more
