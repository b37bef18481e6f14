-- What the answers of the search for wins by threats say.
use Rattle.std.specs.Prelude.{◌≡◌, ℕ, ◌*◌, ◌≤◌, true, false, List, length, Result, OnOk}
use Rattle.game_rules.specs.Grid.{Grid}
use Rattle.game_rules.specs.Games.{WinsByFours, WinsByThreats}
use Rattle.game_rules.specs.declared.RuleKind.{RuleKind}
use Rattle.strategy_graph.specs.declared.Node.{Node}
use Rattle.strategy_compiler.specs.Growth.{Writes}
use Rattle.strategy_compiler.specs.declared.error.SearchError.{SearchError}
use Rattle.strategy_compiler.specs.declared.wins.WrittenWin.{WrittenWin}
use Rattle.proof_tree.specs.Combining.{is_settled, settled_numbers}
use Rattle.proof_tree.specs.Trees.{IsTree, Tree}
use Rattle.proof_tree.specs.declared.Numbers.{Numbers}
use Rattle.proof_number.specs.declared.answer.ProofAnswer.{ProofAnswer}
use Rattle.proof_number.specs.declared.answer.ProofAnswer.TheVariants.{Win, None, Spent}

-- P holds of the win, if the answer is one
abbrev pub OnWin : ProofAnswer → (WrittenWin → Type 0) → Type 0
OnWin (Win win) P = P win
OnWin None P = Unit {0}
OnWin Spent P = Unit {0}

-- there is no win by threats within the limit, and none by continuous fours
pub record HasNoThreatWin (rule : RuleKind) (limit : ℕ) (b : Grid) : Type 0 where
  pub no_threats : ¬ WinsByThreats rule limit b
  pub no_fours : ¬ WinsByFours rule limit b

-- what the numbers of the root say after each answer: it is proved, disproved, or not settled
abbrev pub RootSays : ProofAnswer → Numbers → Type 0
RootSays (Win win) n = n ≡ settled_numbers true
RootSays None n = n ≡ settled_numbers false
RootSays Spent n = is_settled n ≡ false

-- What every answer and refusal leaves, where at most so many positions may be counted, and at most so many of them are won. The numbers of
-- the tree are minimum and sum, it has no fewer nodes than before, and with an answer at most twice as many as positions may be counted.
-- The nodes of the compiler stay, and no more are added than are won. It is `Full` only where so many don't fit, and then it has as many
-- as there can be.
pub record Leaves {A : Type 0} (most wins : ℕ) (t u : Tree) (c d : List Node) (result : Result A SearchError) : Type 0 where
  pub tree : IsTree u
  pub longer : length t.links ≤ length u.links
  pub tree_few : OnOk result (length u.links ≤ 2 * most)
  pub writes : Writes c d wins result
