-- Runs, five points, fours, straight fours and three points.
use Rattle.std.specs.Prelude.{ℕ, ◌+◌, Bool, false, ◌&&◌, ◌||◌, not, nat_le, ◌==◌, if◌then◌else◌}
use Rattle.std.specs.List.{range_with_len, prefix_len, list_any}
use Rattle.std.specs.Prelude.{Option, Some, None}
use Rattle.game_rules.specs.Grid.{Grid, is_empty, holds, put, along, axes}
use Rattle.game_rules.specs.Fours.{count_fours}
use Rattle.game_rules.specs.declared.Side.{Side}
use Rattle.game_rules.specs.declared.Side.TheVariants.{Black}
use Rattle.game_rules.specs.declared.RuleKind.{RuleKind}
use Rattle.game_rules.specs.declared.RuleKind.TheVariants.{Exact, Renju}
use Rattle.game_rules.specs.declared.Axis.{Axis}
use Rattle.game_rules.specs.declared.Point.{Point}

-- whether a run of this length wins for the side under the rule: exactly five under exact, and for Black under renju, and else five
-- or more
abbrev pub row_wins : RuleKind → Side → ℕ → Bool
row_wins Exact s n = n == 5
row_wins Renju Black n = n == 5
row_wins rule s n = nat_le 5 n

-- whether there is such a point, and the side has a stone there
abbrev pub stone_at : Grid → Side → Option Point → Bool
stone_at b s None = false
stone_at b s (Some p) = holds b s p

-- how many stones of the side stand in an unbroken row next to the point, ahead of it. No line of the board has as many
-- points as its width and height together.
abbrev pub stones_ahead : Grid → Side → Axis → Point → ℕ
stones_ahead b s d p = prefix_len (λ k. stone_at b s (along d p k 0)) (range_with_len 1 (b.width + b.height))

-- how many stones of the side stand in an unbroken row next to the point, behind it
abbrev pub stones_behind : Grid → Side → Axis → Point → ℕ
stones_behind b s d p = prefix_len (λ k. stone_at b s (along d p 0 k)) (range_with_len 1 (b.width + b.height))

-- the number of stones of the side that stand unbroken through the point along the axis, 0 where it holds none
abbrev pub run_of : Grid → Side → Axis → Point → ℕ
run_of b s d p = if holds b s p then 1 + stones_ahead b s d p + stones_behind b s d p else 0

-- whether the point is empty, and a stone of the side on it makes a winning run on the axis
abbrev pub wins_on : RuleKind → Grid → Side → Axis → Point → Bool
wins_on rule b s d p = is_empty b p && row_wins rule s (run_of (put b s p) s d p)

-- a five point of the side: an empty point where its stone makes a winning run on some axis
abbrev pub five : RuleKind → Grid → Side → Point → Bool
five rule b s p = list_any (λ d. wins_on rule b s d p) axes

-- whether there is such a point, and a stone of the side on it makes a winning run on the axis
abbrev pub wins_at : RuleKind → Grid → Side → Axis → Option Point → Bool
wins_at rule b s d None = false
wins_at rule b s d (Some p) = wins_on rule b s d p

-- the fours of the stone on p on the axis: the number of different sets of four stones that hold p and that, with
-- one empty point, are five consecutive points whose filling gives a winning run (RIF Rules of Renju). Place i of the
-- line around p is i steps ahead and four back, so place 4 is p.
unfoldable pub fours_of : RuleKind → Grid → Side → Axis → Point → ℕ
fours_of rule b s d p = count_fours (λ i. stone_at b s (along d p i 4)) (λ i. wins_at rule b s d (along d p i 4))

-- a straight four: the run through p is of exactly four, and both its end points are on the board, empty, and make a
-- winning run on the axis
unfoldable pub is_straight : RuleKind → Grid → Side → Axis → Point → Bool
is_straight rule b s d p =
    run_of b s d p == 4
    && wins_at rule b s d (along d p (1 + stones_ahead b s d p) 0)
    && wins_at rule b s d (along d p 0 (1 + stones_behind b s d p))

-- whether two points are one
abbrev pub is_same_point : Point → Point → Bool
is_same_point p q = p.x == q.x && p.y == q.y

-- whether there is such a point, and it is q
abbrev pub is_at : Point → Option Point → Bool
is_at q None = false
is_at q (Some p) = is_same_point q p

-- whether q is a point of the run through p on the axis
abbrev pub is_in_run : Grid → Side → Axis → Point → Point → Bool
is_in_run b s d p q =
    list_any (λ k. is_at q (along d p k 0)) (range_with_len 0 (1 + stones_ahead b s d p))
    || list_any (λ k. is_at q (along d p 0 k)) (range_with_len 1 (stones_behind b s d p))

-- whether a stone of the side on q gives a straight four on the axis that holds p and q
unfoldable pub gives_straight : RuleKind → Grid → Side → Axis → Point → Point → Bool
gives_straight rule b s d p q = is_straight rule (put b s q) s d p && is_in_run (put b s q) s d p q

-- a three point of the side's stone on p on the axis, as far as this axis decides: an empty point whose stone gives a
-- straight four that holds p and q, and makes no winning run on this axis (which follows, since its run there is four)
unfoldable pub is_line_three_point : RuleKind → Grid → Side → Axis → Point → Point → Bool
is_line_three_point rule b s d p q = is_empty b q && not (wins_on rule b s d q) && gives_straight rule b s d p q

-- a three point of the side's stone on p on the axis: an empty point that is no five point, and whose stone gives a straight
-- four on the axis that holds p and q
unfoldable pub is_three_point : RuleKind → Grid → Side → Axis → Point → Point → Bool
is_three_point rule b s d p q = is_empty b q && not (five rule b s q) && gives_straight rule b s d p q

-- whether there is such a point, and it is a three point as far as the axis decides
abbrev pub is_line_three_at : RuleKind → Grid → Side → Axis → Point → Option Point → Bool
is_line_three_at rule b s d p None = false
is_line_three_at rule b s d p (Some q) = is_line_three_point rule b s d p q
