-- The draws of the drill, and the positions that are made of them.
use Rattle.std.specs.Prelude.{ℕ, zero, suc, ◌+◌, ◌*◌, ◌/◌, ◌%◌, ◌^◌, ◌==◌, ◌&&◌, nat_lt, if◌then◌else◌}
use Rattle.game_rules.specs.Grid.{Grid, stones_of}
use Rattle.game_rules.specs.Play.{outcome, after, goes_on}
use Rattle.game_rules.specs.declared.RuleKind.{RuleKind}
use Rattle.game_rules.specs.declared.RuleKind.TheVariants.{Freestyle, Exact, Renju}
use Rattle.game_rules.specs.declared.Side.TheVariants.{Black, White}
use Rattle.game_rules.specs.declared.Point.{Point}
use Rattle.brain_session.specs.States.{empty_board}
use Rattle.strength_drill.specs.declared.draws.TheConstants.{MULTIPLIER, INCREMENT}
use Rattle.strength_drill.specs.declared.positions.TheConstants.{SIDE, DRAWN_POINTS, MOST_STONES}

-- the number of 64 bits after a draw
abbrev pub next_number : ℕ → ℕ
next_number s = (s * MULTIPLIER + INCREMENT) % 2 ^ 64

-- what is drawn, by the number after the draw: the upper 31 of its bits
abbrev pub drawn : ℕ → ℕ
drawn s = s / 2 ^ 33

-- the number after so many draws
unfoldable pub number_after : ℕ → ℕ → ℕ
number_after s zero = s
number_after s (suc k) = next_number (number_after s k)

-- the draws of a number, one after another: that at place k, counted from 0
abbrev pub draw_at : ℕ → ℕ → ℕ
draw_at s k = drawn (number_after s (suc k))

-- the point of a draw: one of the 81 in the middle of the board
abbrev pub middle_point : ℕ → Point
middle_point v = let k = v % 81 in record { x = 3 + k % 9; y = 3 + k / 9 }

-- how many stones stand on the board
abbrev pub all_stones : Grid → ℕ
all_stones b = stones_of b Black + stones_of b White

-- the board after the side to move has played the point, where fewer than MOST_STONES stones stand and the move goes on, and else
-- the board as it is
unfoldable pub with_point : RuleKind → Grid → Point → Grid
with_point rule b p = if nat_lt (all_stones b) MOST_STONES && goes_on (outcome rule b p) then after b p else b

-- the board that is made of the first so many draws of the number, from the empty one: each names a point in the middle
unfoldable pub board_drawn : RuleKind → ℕ → ℕ → Grid
board_drawn rule s zero = empty_board SIDE SIDE
board_drawn rule s (suc k) = with_point rule (board_drawn rule s k) (middle_point (draw_at s k))

-- the board of the position that is made of the draws of the number
abbrev pub position_drawn : RuleKind → ℕ → Grid
position_drawn rule s = board_drawn rule s DRAWN_POINTS

-- the rule of the position with this number, counted from 0: each of the three rules in turn
abbrev pub rule_at : ℕ → RuleKind
rule_at i = if i % 3 == 0 then Freestyle else if i % 3 == 1 then Exact else Renju
