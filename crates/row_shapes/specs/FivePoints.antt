-- The five points of a side, as far as a search of fours asks.
use Rattle.std.specs.Prelude.{Bool, true, false, List, [], ◌∷◌}
use Rattle.game_rules.specs.Shapes.{is_same_point}
use Rattle.game_rules.specs.declared.Point.{Point}
use Rattle.row_shapes.specs.declared.fives.FivePoints.{FivePoints}
use Rattle.row_shapes.specs.declared.fives.FivePoints.TheVariants.{None, One, Several}

-- the five points of a list in short: none, the one, or that there are more
abbrev pub in_short : List Point → FivePoints
in_short [] = None
in_short (w ∷ []) = One w
in_short (w ∷ v ∷ more) = Several

-- whether a stone of the other side on the point takes all of these five points
abbrev pub takes : FivePoints → Point → Bool
takes None p = true
takes (One w) p = is_same_point w p
takes Several p = false

-- whether there are two or more
abbrev pub is_several : FivePoints → Bool
is_several None = false
is_several (One w) = false
is_several Several = true
