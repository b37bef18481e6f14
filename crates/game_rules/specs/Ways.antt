-- Steps along an axis in one of the two ways.
use Rattle.std.specs.Prelude.{ℕ, ◌+◌, Option}
use Rattle.game_rules.specs.Grid.{Grid, along}
use Rattle.game_rules.specs.Shapes.{stones_ahead, stones_behind}
use Rattle.game_rules.specs.declared.Side.{Side}
use Rattle.game_rules.specs.declared.Axis.{Axis}
use Rattle.game_rules.specs.declared.Point.{Point}
use Rattle.game_rules.specs.declared.Way.{Way}
use Rattle.game_rules.specs.declared.Way.TheVariants.{Ahead, Behind}

-- the other way
abbrev pub opposite : Way → Way
opposite Ahead = Behind
opposite Behind = Ahead

-- the point so many steps on along the axis in that way, and so many back again
abbrev pub go : Way → Axis → Point → ℕ → ℕ → Option Point
go Ahead d p on back = along d p on back
go Behind d p on back = along d p back on

-- the point so many steps along the axis in that way
abbrev pub towards : Way → Axis → Point → ℕ → Option Point
towards w d p k = go w d p k 0

-- how many stones of the side stand in an unbroken row next to the point in that way
abbrev pub stones_towards : Way → Grid → Side → Axis → Point → ℕ
stones_towards Ahead b s d p = stones_ahead b s d p
stones_towards Behind b s d p = stones_behind b s d p

-- the first point in that way that holds no stone of the side, if there is one: the end of a run through the point
abbrev pub run_end : Grid → Side → Axis → Way → Point → Option Point
run_end b s d w p = towards w d p (1 + stones_towards w b s d p)
