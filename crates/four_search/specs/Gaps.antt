-- Gaps beside a stone: the empty points that stones of its side part from it.
use Rattle.std.specs.Prelude.{◌≡◌, ℕ, ◌+◌, ◌≤◌, true, ◌⊎◌, Option, Some}
use Rattle.game_rules.specs.Grid.{Grid, is_empty}
use Rattle.game_rules.specs.Ways.{opposite, stones_towards, run_end}
use Rattle.game_rules.specs.declared.Side.{Side}
use Rattle.game_rules.specs.declared.Axis.{Axis}
use Rattle.game_rules.specs.declared.Point.{Point}
use Rattle.game_rules.specs.declared.Way.{Way}
use Rattle.game_rules.specs.declared.Way.TheVariants.{Ahead, Behind}
use Rattle.stone_board.specs.Steps.{kept_empty}
use Rattle.four_search.specs.declared.gaps.Gaps.{Gaps}

-- q is the point past the stones of the side next to p in that way
abbrev pub IsPast : Grid → Side → Axis → Way → Point → Point → Type 0
IsPast b s d w p q = run_end b s d w p ≡ Some q

-- q and r are the first two gaps from the stone on p in that way; beside it, between them and past them stand three stones or
-- more, with that on p
pub record GapsOneWay (b : Grid) (s : Side) (d : Axis) (w : Way) (p q r : Point) : Type 0 where
  pub first : IsPast b s d w p q
  pub second : IsPast b s d w q r
  pub enough : 3 ≤ 1 + stones_towards w b s d p + stones_towards (opposite w) b s d p + stones_towards w b s d q + stones_towards w b s d r

-- q and r are the first gaps from the stone on p ahead of it and behind it; beside it and past them stand three stones or more,
-- with that on p
pub record GapsBothWays (b : Grid) (s : Side) (d : Axis) (p q r : Point) : Type 0 where
  pub ahead : IsPast b s d Ahead p q
  pub behind : IsPast b s d Behind p r
  pub enough : 3 ≤ 1 + stones_towards Ahead b s d p + stones_towards Behind b s d p + stones_towards Ahead b s d q + stones_towards Behind b
      s d r

-- two gaps from the stone on p on the axis which with stones of the side make a row of five or more
abbrev pub AreGaps : Grid → Side → Axis → Point → Point → Point → Type 0
AreGaps b s d p q r = GapsOneWay b s d Ahead p q r ⊎ GapsOneWay b s d Behind p q r ⊎ GapsBothWays b s d p q r

-- x is such a gap from the stone on p, on that axis
pub record IsGapOn (b : Grid) (s : Side) (d : Axis) (p x : Point) : Type 0 where
  pub one : Point
  pub two : Point
  pub one_empty : is_empty b one ≡ true
  pub two_empty : is_empty b two ≡ true
  pub gaps : AreGaps b s d p one two
  pub is : (x ≡ one) ⊎ (x ≡ two)

-- x is such a gap from the stone on p
abbrev pub IsGap : Grid → Side → Point → Point → Type 0
IsGap b s p x = (d : Axis) × IsGapOn b s d p x

-- the point past the stones of the side next to p in that way, if it is on the board and empty
abbrev pub next_gap : Grid → Side → Axis → Way → Point → Option Point
next_gap b s d w p = kept_empty b (run_end b s d w p)

-- what stands from p in that way: stones, a gap, stones, a gap, stones
pub record TellsGaps (b : Grid) (s : Side) (d : Axis) (w : Way) (p : Point) (g : Gaps) : Type 0 where
  pub near : g.near ≡ stones_towards w b s d p
  pub first : g.first ≡ next_gap b s d w p
  pub between : (q : Point) → g.first ≡ Some q → g.between ≡ stones_towards w b s d q
  pub second : (q : Point) → g.first ≡ Some q → g.second ≡ next_gap b s d w q
  pub beyond : (q r : Point) → g.first ≡ Some q → g.second ≡ Some r → g.beyond ≡ stones_towards w b s d r

-- the two points, where there are both and there are three stones or more
pub record IsOfPair (one two : Option Point) (stones : ℕ) (x : Point) : Type 0 where
  pub q : Point
  pub r : Point
  pub first : one ≡ Some q
  pub second : two ≡ Some r
  pub enough : 3 ≤ stones
  pub is : (x ≡ q) ⊎ (x ≡ r)
