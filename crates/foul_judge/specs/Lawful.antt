-- Why a board is no lawful position.
use Rattle.std.specs.Prelude.{ℕ, ◌+◌, Bool, ◌&&◌, ◌||◌, not, ◌==◌, if◌then◌else◌, Option, Some, None}
use Rattle.std.specs.List.{list_any, find}
use Rattle.game_rules.specs.Grid.{Grid, holds, axes, points_of, stones_of, empties_of}
use Rattle.game_rules.specs.Shapes.{row_wins, run_of}
use Rattle.game_rules.specs.declared.RuleKind.{RuleKind}
use Rattle.game_rules.specs.declared.Side.{Side}
use Rattle.game_rules.specs.declared.Side.TheVariants.{Black, White}
use Rattle.game_rules.specs.declared.Point.{Point}
use Rattle.foul_judge.specs.declared.position.PositionError.{PositionError}
use Rattle.foul_judge.specs.declared.position.PositionError.TheVariants.{Uneven, AlreadyWon, BoardFull}

-- whether these numbers of stones name a side to move: they are equal, or Black has one more
abbrev pub names_mover : ℕ → ℕ → Bool
names_mover black white = black == white || black == white + 1

-- whether a stone of the side stands on the point, and its run on some axis wins
abbrev pub wins_through : RuleKind → Grid → Side → Point → Bool
wins_through rule b s p = holds b s p && list_any (λ d. row_wins rule s (run_of b s d p)) axes

-- whether the point is on a winning run of either side
abbrev pub is_on_winning_run : RuleKind → Grid → Point → Bool
is_on_winning_run rule b p = wins_through rule b Black p || wins_through rule b White p

-- what is said of the first point on a winning run, or else of the number of empty points
abbrev pub won_or_full : Option Point → ℕ → Option PositionError
won_or_full (Some p) empties = Some (AlreadyWon p)
won_or_full None empties = if empties == 0 then Some BoardFull else None

-- the first reason why the board is no lawful position: its counts, the least point on a winning run, or that it is full
unfoldable pub refusal : RuleKind → Grid → Option PositionError
refusal rule b =
    if not (names_mover (stones_of b Black) (stones_of b White)) then Some (Uneven (stones_of b Black) (stones_of b White))
    else won_or_full (find (is_on_winning_run rule b) (points_of b)) (empties_of b)
