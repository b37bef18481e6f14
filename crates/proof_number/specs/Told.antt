-- What a search that has begun tells, in the words of the answers, and what it leaves.
use Rattle.std.specs.Prelude.{ℕ, ◌<◌, List, min, Result, IfOk, OnOk}
use Rattle.game_rules.specs.Grid.{Grid}
use Rattle.game_rules.specs.declared.RuleKind.{RuleKind}
use Rattle.strategy_graph.specs.declared.Node.{Node}
use Rattle.strategy_compiler.specs.declared.error.SearchError.{SearchError}
use Rattle.proof_tree.specs.Trees.{Tree, numbers_at}
use Rattle.threat_game.specs.ThreatGame.{threat_tree}
use Rattle.threat_game.specs.Wins.{IsThreatWin}
use Rattle.proof_number.specs.declared.answer.ProofAnswer.{ProofAnswer}
use Rattle.proof_number.specs.declared.answer.ProofAnswer.TheVariants.{Win, None, Spent}
use Rattle.proof_number.specs.declared.search.Search.{Search}
use Rattle.proof_number.specs.Answers.{HasNoThreatWin, Leaves, RootSays}
use Rattle.proof_number.specs.Denials.{HasDenial}
use Rattle.proof_number.specs.SearchTrees.{HasDisproved, HasRunOut, IsSearchTree}
use Rattle.proof_number.specs.ThreatWins.{threat_wins}

-- what is told of the board b, where a win is searched within n moves and at most so many positions may be counted, is so; u is the tree
abbrev pub IsTrueAnswer : RuleKind → ℕ → ℕ → Grid → List Node → Tree → ProofAnswer → Type 0
IsTrueAnswer rule n budget b d u (Win win) = IsThreatWin rule n b d win
IsTrueAnswer rule n budget b d u None =
    HasNoThreatWin rule n b × HasDenial rule n b (min budget (threat_tree rule n b)) × HasDisproved rule n budget b u
IsTrueAnswer rule n budget b d u Spent = (budget < threat_tree rule n b) × HasRunOut rule n budget b u

-- what the search s tells is so, the numbers of the root say the same, and it leaves what every answer and refusal does; the tree is one
-- that the search has grown
pub record IsTold (rule : RuleKind) (s : Search) (t u : Tree) (c d : List Node) (result : Result ProofAnswer SearchError) : Type 0 where
  pub true_answer : IfOk result (IsTrueAnswer rule s.depth s.budget s.root d u)
  pub root : IfOk result (λ a. RootSays a (numbers_at u.numbers 0))
  pub leaves : Leaves (min s.budget (threat_tree rule s.depth s.root)) (min s.budget (threat_wins rule s.depth s.root)) t u c d result
  pub searched : OnOk result (IsSearchTree rule s.depth s.budget s.root u)
