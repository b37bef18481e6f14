-- What is remembered of positions of the attacker is true.
use Rattle.std.specs.Prelude.{ℕ, List}
use Rattle.game_rules.specs.Grid.{Grid}
use Rattle.game_rules.specs.Games.{WinsByThreats}
use Rattle.game_rules.specs.declared.RuleKind.{RuleKind}
use Rattle.position_table.specs.Remembering.{Remembered, IsTrueTable}
use Rattle.strategy_graph.specs.declared.Node.{Node}
use Rattle.strategy_compiler.specs.Wins.{IsWrittenWin}
use Rattle.proof_tree.specs.declared.Kind.TheVariants.{Attack}
use Rattle.proof_number.specs.declared.notes.Settled.{Settled}
use Rattle.proof_number.specs.declared.notes.Settled.TheVariants.{Won, Lost, Open}
use Rattle.proof_number.specs.GameTrees.{GameTree, IsLostAt}

-- what is known of a board within so many moves is true: the win is one by threats and written, or there is none by threats, and the
-- position is lost by disproved nodes of the tree; of a node that is open there nothing has to be known
abbrev pub IsTrueOf : RuleKind → List Node → GameTree → Grid → ℕ → Settled → Type 0
IsTrueOf rule c g b n (Won win) = IsWrittenWin rule n b c win × WinsByThreats rule n b
IsTrueOf rule c g b n Lost = (¬ WinsByThreats rule n b) × IsLostAt Attack g n b
IsTrueOf rule c g b n (Open node) = Unit {0}

-- what is remembered of positions is true
abbrev pub IsTrueMemo : RuleKind → List Node → GameTree → Remembered Settled → Type 0
IsTrueMemo rule c g memo = IsTrueTable Settled rule (IsTrueOf rule c g) memo
