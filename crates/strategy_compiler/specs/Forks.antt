-- Nodes that win: those whose attack wins at once, and those whose answers win after it.
use Rattle.std.specs.Prelude.{◌≡◌, ℕ, suc, ◌+◌, ◌≤◌, not, true, if◌then◌else◌, List, [], ◌∷◌, map}
use Rattle.std.specs.List.{list_any, AllByRecursion}
use Rattle.game_rules.specs.Grid.{Grid, is_on}
use Rattle.game_rules.specs.Shapes.{is_same_point}
use Rattle.game_rules.specs.Play.{outcome, after}
use Rattle.game_rules.specs.Games.{LosesOr}
use Rattle.game_rules.specs.declared.RuleKind.{RuleKind}
use Rattle.game_rules.specs.declared.Outcome.TheVariants.{Wins, GoesOn}
use Rattle.game_rules.specs.declared.Point.{Point}
use Rattle.strategy_graph.specs.declared.Reply.{Reply}
use Rattle.strategy_graph.specs.declared.Node.{Node}
use Rattle.strategy_graph.specs.Tables.{RepliesOn, start_depth}
use Rattle.strategy_graph.specs.Acceptance.{AcceptedStart}
use Rattle.strategy_compiler.specs.Starts.{answers_alone}
use Rattle.strategy_compiler.specs.Wins.{StaysOnBoard, IsWrittenWin}

-- The answers win at c, where the side that has them is not to move, within so many moves: each move at c is no move, fouls, or goes
-- on to a board where the node that answers it is accepted. None of these nodes is deeper, and what the answers name stays on the
-- board.
pub record AnswersWin (rule : RuleKind) (limit : ℕ) (c : Grid) (t : List Node) (answers : List Reply) : Type 0 where
  pub accepted : AcceptedStart rule t (answers_alone answers) c
  pub within : start_depth t (answers_alone answers) ≤ limit
  pub on_board : RepliesOn c answers
  pub stay : AllByRecursion (λ r. StaysOnBoard c t r.next) answers

-- node i wins in one move wherever the attack p wins at once
abbrev pub WinsAtOnce : Point → List Node → ℕ → Type 0
WinsAtOnce p t i = (rule : RuleKind) (b : Grid) → outcome rule b p ≡ Wins → IsWrittenWin rule 1 b t (record { node = i; moves = 1 })

-- node i of the new nodes wins wherever the attack p goes on and the answers, which are old nodes, win after it: in one move more
-- than the deepest of them
abbrev pub WinsByAnswers : List Node → Point → List Reply → List Node → ℕ → Type 0
WinsByAnswers old p answers new i =
    (rule : RuleKind) (limit : ℕ) (b : Grid) → outcome rule b p ≡ GoesOn → AnswersWin rule limit (after b p) old answers
    → IsWrittenWin rule (suc limit) b new (record { node = i; moves = start_depth old (answers_alone answers) + 1 })

-- node i for the reply w, and node j for any other
abbrev pub answer_node : Point → ℕ → ℕ → Point → ℕ
answer_node w i j q = if is_same_point q w then i else j

-- such an answer to each of the replies
abbrev pub two_answers : Point → ℕ → ℕ → List Point → List Reply
two_answers w i j replies = map (λ q. record { at = q; next = answer_node w i j q }) replies

-- A double threat at b: the move goes on, and each reply to it is no move, fouls, or is one of these; then the second point wins where
-- the reply is the first, and the first point wins where it is another. All of these points are on the board.
pub record IsDoubleThreat (rule : RuleKind) (b : Grid) (start first second : Point) (replies : List Point) : Type 0 where
  pub goes_on : outcome rule b start ≡ GoesOn
  pub lost : (q : Point) → LosesOr (outcome rule (after b start) q)
      (outcome rule (after (after b start) q) (if is_same_point q first then second else first) ≡ Wins)
  pub listed : (q : Point) → outcome rule (after b start) q ≡ GoesOn → list_any (is_same_point q) replies ≡ true
  pub on_board : AllByRecursion (λ q. is_on b q ≡ true) (first ∷ second ∷ replies)

-- the moves of a win by a double threat: two, or one where there is no reply
abbrev pub double_moves : List Point → ℕ
double_moves [] = 1
double_moves (q ∷ qs) = 2

-- the nodes of a win by a double threat: its own, one for the reply on the first point, and one for the others
abbrev pub double_nodes : Point → List Point → ℕ
double_nodes first replies =
    1 + (if list_any (λ q. is_same_point q first) replies then 1 else 0) +
    (if list_any (λ q. not (is_same_point q first)) replies then 1 else 0)
