-- Fouls of Black, outcomes of moves, lawful positions.
use Rattle.std.specs.Prelude.{◌≡◌, ◌⊎◌, ℕ, zero, suc, ◌+◌, ◌<◌, Bool, true, false, not, nat_le, ◌==◌, if◌then◌else◌, Option, Some, None}
use Rattle.std.specs.Prelude.{is_none}
use Rattle.std.specs.Option.{option_map_or}
use Rattle.std.specs.List.{count_by, sum_by, list_any, filter}
use Rattle.game_rules.specs.Grid.{Grid, IsBoard, is_empty, holds, put, axes, points_of, stones_of, empties_of}
use Rattle.game_rules.specs.Shapes.{row_wins, run_of, five, fours_of, is_three_point}
use Rattle.game_rules.specs.declared.Side.{Side}
use Rattle.game_rules.specs.declared.Side.TheVariants.{Black, White}
use Rattle.game_rules.specs.declared.RuleKind.{RuleKind}
use Rattle.game_rules.specs.declared.RuleKind.TheVariants.{Renju}
use Rattle.game_rules.specs.declared.Foul.{Foul}
use Rattle.game_rules.specs.declared.Foul.TheVariants.{Overline, DoubleFour, DoubleThree}
use Rattle.game_rules.specs.declared.Outcome.{Outcome}
use Rattle.game_rules.specs.declared.Outcome.TheVariants.{Refused, Wins, Fouls, Draws, GoesOn}
use Rattle.game_rules.specs.declared.Axis.{Axis}
use Rattle.game_rules.specs.declared.Point.{Point}

-- whether the axis is a three of Black's stone on p: it has a three point at which Black has no foul, on the board with
-- the stone. Which double-threes are allowed to stand is decided by this alone; it is this program's own rule.
unfoldable pub is_three : RuleKind → Grid → Axis → Point → (Point → Option Foul) → Bool
is_three rule b d p foul_at = list_any (λ q. is_none (foul_at q)) (filter (is_three_point rule b Black d p) (points_of b))

-- the foul that Black's stone on p makes, where foul_at tells the fouls of a further stone. Asked in order: none with a run
-- of exactly five, an overline, two fours or more, two threes or more
unfoldable pub stone_foul : RuleKind → Grid → Point → (Point → Option Foul) → Option Foul
stone_foul rule b p foul_at =
    if list_any (λ d. run_of b Black d p == 5) axes then None
    else if list_any (λ d. nat_le 6 (run_of b Black d p)) axes then Some Overline
    else if nat_le 2 (sum_by (λ d. fours_of rule b Black d p) axes) then Some DoubleFour
    else if nat_le 2 (count_by (λ d. is_three rule b d p foul_at) axes) then Some DoubleThree else None

-- the foul that Black's stone makes at p, where at most so many stones are put one after another: with 0 it sees none
unfoldable pub black_foul_within : ℕ → RuleKind → Grid → Point → Option Foul
black_foul_within zero rule b p = None
black_foul_within (suc n) rule b p = stone_foul rule (put b Black p) p (black_foul_within n rule (put b Black p))

-- the foul that Black's stone makes at the empty point p where Black has fouls (foul_of asks whether it has): each stone
-- takes an empty point, so no more can be put than there are
unfoldable pub black_foul : RuleKind → Grid → Point → Option Foul
black_foul rule b p = black_foul_within (empties_of b) rule b p

-- whether the side has fouls under the rule: Black under renju alone
abbrev pub has_fouls : RuleKind → Side → Bool
has_fouls Renju Black = true
has_fouls rule s = false

-- the foul of the side at the empty point p: none for White, and none under freestyle and exact
abbrev pub foul_of : RuleKind → Grid → Side → Point → Option Foul
foul_of rule b s p = if has_fouls rule s then black_foul rule b p else None

-- the other side
abbrev pub other : Side → Side
other Black = White
other White = Black

-- the side to move where the counts name one: Black where they are equal, and else White
abbrev pub mover : Grid → Side
mover b = if stones_of b Black == stones_of b White then Black else White

-- the outcome of a move of the side to move at p, the first that applies: no empty point, a winning run, a foul, the last
-- empty point, or the game goes on. So a foul on the last empty point is a foul and no draw.
unfoldable pub outcome : RuleKind → Grid → Point → Outcome
outcome rule b p =
    if not (is_empty b p) then Refused
    else if five rule b (mover b) p then Wins
    else option_map_or Fouls (foul_of rule b (mover b) p) (if empties_of b == 1 then Draws else GoesOn)

-- whether the game goes on after a move with this outcome
abbrev pub goes_on : Outcome → Bool
goes_on GoesOn = true
goes_on o = false

-- whether it goes on, and the test says so too
abbrev pub goes_on_with : Outcome → Bool → Bool
goes_on_with GoesOn test = test
goes_on_with o test = false

-- whether a move with this outcome wins
abbrev pub is_win : Outcome → Bool
is_win Wins = true
is_win o = false

-- whether it is a foul
abbrev pub is_foul : Outcome → Bool
is_foul (Fouls f) = true
is_foul o = false

-- whether it wins or fills the board
abbrev pub saves : Outcome → Bool
saves Wins = true
saves Draws = true
saves o = false

-- the board after the side to move has put its stone on p, a point of the board
abbrev pub after : Grid → Point → Grid
after b p = put b (mover b) p

-- neither side has a winning run
pub record IsUnwon (rule : RuleKind) (b : Grid) : Type 0 where
  pub no_winning_run : (s : Side) (d : Axis) (p : Point) → holds b s p ≡ true → row_wins rule s (run_of b s d p) ≡ false

-- a lawful position: the counts name a side to move, since they are equal or Black has one stone more; neither side has a
-- winning run; and some point is empty
pub record IsPosition (rule : RuleKind) (b : Grid) : Type 0 where
  pub board : IsBoard b
  pub turns : (stones_of b Black ≡ stones_of b White) ⊎ (stones_of b Black ≡ stones_of b White + 1)
  pub unwon : IsUnwon rule b
  pub open_points : 0 < empties_of b
