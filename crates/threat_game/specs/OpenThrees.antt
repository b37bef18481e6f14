-- Open windows with three stones, by the bits of a line.
use Rattle.std.specs.Prelude.{◌≡◌, ℕ, ◌+◌, ◌≤◌, ◌<◌, true, false}
use Rattle.std.specs.Int.{bit_at}
use Rattle.game_rules.specs.Grid.{Grid, IsBoard, is_empty}
use Rattle.game_rules.specs.declared.Axis.{Axis}
use Rattle.game_rules.specs.declared.Point.{Point}
use Rattle.game_rules.specs.declared.RuleKind.{RuleKind}
use Rattle.game_rules.specs.declared.Side.{Side}
use Rattle.stone_board.specs.Lines.{line_of, place_on}
use Rattle.threat_game.specs.NearDoubles.{makes_on}

-- of the five places from i on, by the bits of a side and of the other, three hold its stones, and none one of the other
pub record IsOpenThree (own theirs i : ℕ) : Type 0 where
  pub many : 3 ≤ bit_at own (i + 0) + bit_at own (i + 1) + bit_at own (i + 2) + bit_at own (i + 3) + bit_at own (i + 4)
  pub clear : (k : ℕ) → k < 5 → bit_at theirs (i + k) ≡ 0

-- neither the place nor one at most four before it has its bit set
abbrev pub NoneNear : ℕ → ℕ → Type 0
NoneNear starts place = (i back : ℕ) → back < 5 → i + back ≡ place → bit_at starts i ≡ 0

-- the same where the place holds no stone, by its bits
abbrev pub IsPassed : ℕ → ℕ → ℕ → Type 0
IsPassed own starts place = bit_at own place ≡ 0 → NoneNear starts place

-- a stone of the side on an empty point of line n of the axis makes no five point there, whatever the rule, where the point's place and
-- the four before it have no bit set
pub record AreStarts (b : Grid) (s : Side) (d : Axis) (n starts : ℕ) : Type 0 where
  pub board : IsBoard b
  pub none : (rule : RuleKind) (q : Point) → is_empty b q ≡ true → line_of d q ≡ n → NoneNear starts (place_on d q)
      → makes_on rule b s d q ≡ false
