-- What the stones next to a point tell of Black's fouls there, before a stone is put.
use Rattle.std.specs.Prelude.{ℕ, Bool, ◌||◌, nat_le, List, map}
use Rattle.std.specs.List.{list_any, count_by, range_with_len}
use Rattle.game_rules.specs.Grid.{Grid, along, axes}
use Rattle.game_rules.specs.Shapes.{is_line_three_at}
use Rattle.game_rules.specs.declared.RuleKind.{RuleKind}
use Rattle.game_rules.specs.declared.Side.TheVariants.{Black}
use Rattle.game_rules.specs.declared.Axis.{Axis}
use Rattle.game_rules.specs.declared.Point.{Point}
use Rattle.row_shapes.specs.Reach.{stones_in_reach}

-- how many stones of Black are within reach of the point on each axis, in the order of the axes
unfoldable pub reaches_of : Grid → Point → List ℕ
reaches_of b p = map (λ d. stones_in_reach b Black d p) axes

-- whether two stones of Black or more are within reach on each of two axes, as two threes need
unfoldable pub may_have_two_threes : List ℕ → Bool
may_have_two_threes reaches = nat_le 2 (count_by (λ reach. nat_le 2 reach) reaches)

-- whether Black's stone on a point with these reaches could be a foul: three stones or more are within reach on some axis,
-- as a four and an overline need, or two on each of two axes, as two threes need
unfoldable pub may_foul : List ℕ → Bool
may_foul reaches = list_any (λ reach. nat_le 3 reach) reaches || may_have_two_threes reaches

-- whether one of the eleven places of the line around Black's stone on p is a three point, as far as the axis decides
unfoldable pub has_line_three : RuleKind → Grid → Axis → Point → Bool
has_line_three rule b d p = list_any (λ i. is_line_three_at rule b Black d p (along d p i 5)) (range_with_len 0 11)
