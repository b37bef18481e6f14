-- Positions where no move fouls, wins or fills the board.
use Rattle.std.specs.Prelude.{◌≡◌, true}
use Rattle.game_rules.specs.Grid.{Grid, is_empty}
use Rattle.game_rules.specs.Play.{outcome}
use Rattle.game_rules.specs.declared.RuleKind.{RuleKind}
use Rattle.game_rules.specs.declared.Outcome.TheVariants.{GoesOn}
use Rattle.game_rules.specs.declared.Point.{Point}

-- each move on an empty point goes on
pub record EachGoesOn (rule : RuleKind) (b : Grid) : Type 0 where
  pub on : (q : Point) → is_empty b q ≡ true → outcome rule b q ≡ GoesOn
