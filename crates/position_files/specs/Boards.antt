-- The sizes of boards, and boards that gain stones of one side.
use Rattle.std.specs.Prelude.{◌≡◌, ℕ, ◌≤◌}
use Rattle.game_rules.specs.Grid.{Grid}
use Rattle.game_rules.specs.Play.{other}
use Rattle.game_rules.specs.declared.Side.{Side}
use Rattle.game_rules.specs.declared.TheConstants.{MIN_SIDE, MAX_SIDE}
use Rattle.position_files.specs.Positions.{stones}

-- the number is the width or the height of a board
pub record IsSide (n : ℕ) : Type 0 where
  pub long : MIN_SIDE ≤ n
  pub fits : n ≤ MAX_SIDE

-- the numbers are the width and the height of a board
pub record AreSides (sides : ℕ × ℕ) : Type 0 where
  pub width : IsSide sides.0
  pub height : IsSide sides.1

-- the boards have one size and the same stones of the other side
pub record SameBut (side : Side) (old new : Grid) : Type 0 where
  pub width : new.width ≡ old.width
  pub height : new.height ≡ old.height
  pub others : stones new (other side) ≡ stones old (other side)
