-- A win by threats that is written.
use Rattle.std.specs.Prelude.{ℕ, List}
use Rattle.game_rules.specs.Grid.{Grid}
use Rattle.game_rules.specs.Games.{WinsByThreats, WinsWithin}
use Rattle.game_rules.specs.declared.RuleKind.{RuleKind}
use Rattle.strategy_graph.specs.declared.Node.{Node}
use Rattle.strategy_compiler.specs.declared.wins.WrittenWin.{WrittenWin}
use Rattle.strategy_compiler.specs.Wins.{IsWrittenWin}

-- A written win by threats: the side to move wins by threats within the limit, and wins within the moves of the win whatever the
-- replies.
pub record IsThreatWin (rule : RuleKind) (limit : ℕ) (b : Grid) (t : List Node) (win : WrittenWin) : Type 0 where
  pub written : IsWrittenWin rule limit b t win
  pub by_threats : WinsByThreats rule limit b
  pub within : WinsWithin rule win.moves b
