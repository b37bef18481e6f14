-- Three points found place by place: a second way to say where they are, from which the code reads. The eleven places of a
-- line around a stone are numbered from 0, and the stone is on place 5.
use Rattle.std.specs.Prelude.{ℕ, ◌+◌, ◌-◌, ◌^◌, Bool, false, ◌&&◌, ◌==◌, if◌then◌else◌, Option, Some, None}
use Rattle.game_rules.specs.Grid.{Grid, is_empty}
use Rattle.game_rules.specs.Shapes.{row_wins, is_line_three_at}
use Rattle.game_rules.specs.Ways.{towards, opposite, stones_towards, run_end}
use Rattle.game_rules.specs.declared.RuleKind.{RuleKind}
use Rattle.game_rules.specs.declared.Side.{Side}
use Rattle.game_rules.specs.declared.Axis.{Axis}
use Rattle.game_rules.specs.declared.Point.{Point}
use Rattle.game_rules.specs.declared.Way.{Way}
use Rattle.game_rules.specs.declared.Way.TheVariants.{Ahead, Behind}

-- whether there is such a point, it is empty, and a stone there joins four on one side of it to a run that wins
abbrev pub wins_past : RuleKind → Grid → Side → Axis → Way → Option Point → Bool
wins_past rule b s d way None = false
wins_past rule b s d way (Some q) = is_empty b q && row_wins rule s (5 + stones_towards way b s d q)

-- whether a stone with so many stones next to it in that way, and so many in the other, is in a straight four
abbrev pub is_open_four : RuleKind → Grid → Side → Axis → Point → Way → ℕ → ℕ → Bool
is_open_four rule b s d p way fore back =
    fore + back == 3 && wins_past rule b s d way (towards way d p (1 + fore)) && wins_past rule b s d (opposite way)
    (towards (opposite way) d p (1 + back))

-- the place so many steps along in that way
abbrev pub place_towards : Way → ℕ → ℕ
place_towards Ahead k = 5 + k
place_towards Behind k = 5 - k

-- the place of the three point in that way, if there is one: it is the first that holds no stone of the side
abbrev pub three_place : RuleKind → Grid → Side → Axis → Point → Way → Option ℕ
three_place rule b s d p way =
    if is_line_three_at rule b s d p (run_end b s d way p)
    then Some (place_towards way (1 + stones_towards way b s d p)) else None

-- the number with this bit alone
abbrev pub bit_of : Option ℕ → ℕ
bit_of None = 0
bit_of (Some i) = 2 ^ i
