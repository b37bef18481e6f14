-- What the answers of the finder say.
use Rattle.std.specs.Prelude.{◌≡◌, ℕ, ◌*◌, ◌≤◌, if◌then◌else◌, List, [], ◌∷◌, map, Option, Some, None, unwrap_or}
use Rattle.std.specs.List.{sum_by, AllByRecursion}
use Rattle.game_rules.specs.Grid.{Grid, is_empty, points_of}
use Rattle.game_rules.specs.Play.{after}
use Rattle.game_rules.specs.declared.RuleKind.{RuleKind}
use Rattle.game_rules.specs.declared.Point.{Point}
use Rattle.strategy_graph.specs.declared.Reply.{Reply}
use Rattle.strategy_graph.specs.declared.Node.{Node}
use Rattle.strategy_graph.specs.Tables.{Answers, RepliesOn, TableOnBoard, start_depth}
use Rattle.strategy_graph.specs.Acceptance.{AcceptedStart}
use Rattle.strategy_compiler.specs.Trees.{Tree, Branches, NoBranch, Branch, StandsFor}
use Rattle.strategy_compiler.specs.Replies.{IsBeatenBy}
use Rattle.four_search.specs.FourGame.{least_moves}
use Rattle.four_search.specs.Plans.{four_plan}
use Rattle.defence_finder.specs.declared.finder.DefenceAnswer.{DefenceAnswer}
use Rattle.defence_finder.specs.declared.finder.DefenceAnswer.TheVariants.{Known, Spent}
use Rattle.defence_finder.specs.Defences.{beaten_of}

-- P holds of the defences and of the other replies, if the answer tells them
abbrev pub OnKnown : DefenceAnswer → (List Point → List Reply → Type 0) → Type 0
OnKnown (Known good bad) P = P good bad
OnKnown (Spent q) P = Unit {0}

-- the reply of which the answer says that the budget does not suffice, if it says so
abbrev pub spent_at : DefenceAnswer → Option Point
spent_at (Known good bad) = None
spent_at (Spent q) = Some q

-- the plan of the win by continuous fours with the fewest moves of the side to move at b, where there is one within n moves
abbrev pub fewest_plan : RuleKind → ℕ → Grid → Tree
fewest_plan rule n b = four_plan rule (unwrap_or (least_moves rule n b) 0) b

-- the node that answers the reply r at b stands for the plan of the win with the fewest moves after it
abbrev pub IsPlanned : RuleKind → ℕ → Grid → List Node → Reply → Type 0
IsPlanned rule n b t r = StandsFor t r.next (fewest_plan rule n (after b r.at))

-- a branch for each of these replies at b, with the plan of the win with the fewest moves after it
abbrev pub plans_after : RuleKind → ℕ → Grid → List Point → Branches
plans_after rule n b [] = NoBranch
plans_after rule n b (q ∷ qs) = Branch q (fewest_plan rule n (after b q)) (plans_after rule n b qs)

-- these are the moves at b that go on and are no defences, in reading order, each with a node that wins after it, which stands for the
-- plan of the win with the fewest moves there
pub record AreBeaten (rule : RuleKind) (n : ℕ) (b : Grid) (t : List Node) (bad : List Reply) : Type 0 where
  pub points : map (λ r. r.at) bad ≡ beaten_of rule n b
  pub each : AllByRecursion (IsBeatenBy rule n b t) bad
  pub planned : AllByRecursion (IsPlanned rule n b t) bad

-- the most nodes that a search within n moves after the reply q may add: two for each move, if q is empty
abbrev pub nodes_after : ℕ → Grid → Point → ℕ
nodes_after n b q = if is_empty b q then 2 * n else 0

-- the most nodes that the finder may add: so many for each empty point
abbrev pub most_nodes : ℕ → Grid → ℕ
most_nodes n b = sum_by (nodes_after n b) (points_of b)

-- A start by which the side that is not to move at b wins within n moves whatever is played first: it is accepted at b and is no
-- deeper than n, and it and its table name points of the board alone.
pub record IsLostStart (rule : RuleKind) (n : ℕ) (b : Grid) (t : List Node) (a : Answers) : Type 0 where
  pub accepted : AcceptedStart rule t a b
  pub within : start_depth t a ≤ n
  pub table_on_board : TableOnBoard b t
  pub replies_on_board : RepliesOn b a.replies
