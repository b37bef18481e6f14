-- What searches remember.
use Rattle.std.specs.Prelude.{◌≡◌, ℕ, false}
use Rattle.game_rules.specs.Grid.{Grid}
use Rattle.game_rules.specs.Games.{wins_by_fours}
use Rattle.game_rules.specs.declared.RuleKind.{RuleKind}
use Rattle.position_table.specs.Remembering.{IsTrueTable}
use Rattle.position_table.specs.Lateness.{Late}
use Rattle.four_search.specs.FourGame.{four_tree}

-- there is no win by fours within so many moves, which have so many positions
pub record IsDenied (rule : RuleKind) (b : Grid) (moves count : ℕ) : Type 0 where
  pub unwon : wins_by_fours rule moves b ≡ false
  pub counted : four_tree rule moves b ≡ count

-- what searches remember is true: under a board and some moves stands the number of their positions, where there is no win
abbrev pub IsTrueMemory : RuleKind → Late → Type 0
IsTrueMemory rule memory = IsTrueTable ℕ rule (IsDenied rule) memory.table
