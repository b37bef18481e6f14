-- Starts that a compiler makes of answers to the first move of the opponent.
use Rattle.std.specs.Prelude.{◌≡◌, ◌↔◌, ℕ, ◌<◌, true, List, map, length, All, Contains, IsSome, IsSomeAnd}
use Rattle.std.specs.List.{range_with_len}
use Rattle.game_rules.specs.Grid.{Grid}
use Rattle.game_rules.specs.Play.{outcome}
use Rattle.game_rules.specs.declared.RuleKind.{RuleKind}
use Rattle.game_rules.specs.declared.Outcome.TheVariants.{GoesOn}
use Rattle.game_rules.specs.declared.Point.{Point}
use Rattle.strategy_graph.specs.declared.Reply.{Reply}
use Rattle.strategy_graph.specs.declared.Rest.TheVariants.{Nothing}
use Rattle.strategy_graph.specs.declared.Node.{Node}
use Rattle.strategy_graph.specs.Tables.{Answers, answer, listed_node, named, names_below, start_depth, IsTable, IsStart}
use Rattle.strategy_graph.specs.Renumbered.{renumbered_answers}
use Rattle.strategy_graph.specs.Acceptance.{AcceptedStart}
use Rattle.strategy_graph.specs.Arrivals.{start_arrivals}
use Rattle.strategy_graph.specs.Laws.{SaysSame}
use Rattle.strategy_compiler.specs.Trees.{Branches, AnswersBriefly, StandsForAll, replies_of}
use Rattle.strategy_compiler.specs.Walks.{AreDifferent, NamesPointsFrom, ReachedFrom, Renumbers, completed_from, place_in, visits}
use Rattle.strategy_compiler.specs.Nodes.{brief_answers}

-- these answers alone: no other reply is answered
abbrev pub answers_alone : List Reply → Answers
answers_alone answers = record { replies = answers; rest = Nothing }

-- each move at b that goes on is a reply of these answers
abbrev pub AnswersEach : RuleKind → Grid → List Reply → Type 0
AnswersEach rule b answers = (q : Point) → outcome rule b q ≡ GoesOn → IsSome (listed_node answers q)

-- the order in which walks from the nodes that answer complete nodes: from that of the rest first, then from those listed
abbrev pub start_order : List Node → List Reply → List ℕ
start_order t answers = completed_from t (visits (brief_answers answers))

-- Table u and the start a are made of these answers by nodes of t. The table has the nodes that the answers reach, each once, in
-- the order of the walks, and the start has the answers in brief, with their places for numbers.
pub record IsMadeOfAnswers (t : List Node) (answers : List Reply) (u : List Node) (a : Answers) : Type 0 where
  pub nodes : Renumbers t (start_order t answers) u
  pub start : a ≡ renumbered_answers (place_in (start_order t answers)) (brief_answers answers)
  pub different : AreDifferent u
  pub below : names_below a (length u) ≡ true
  pub reached : (k : ℕ) → k < length u → ReachedFrom u (named a) k
  -- the answer of the start to each of the replies is a node that says what the given node says
  pub each : All (λ r. IsSomeAnd (answer a r.at) (SaysSame t r.next u)) answers
  pub deep : start_depth u a ≡ start_depth t (answers_alone answers)
  -- the points that the table and the start name
  pub table_points : All (NamesPointsFrom t (map (λ r. r.next) answers)) u
  pub start_points : All (λ r. Contains (map (λ s. s.at) answers) r.at) a.replies
  -- where the answers are to each move that goes on, the start is accepted where they are, with as many arrivals
  pub accepted : (rule : RuleKind) (b : Grid) → AnswersEach rule b answers
      → AcceptedStart rule u a b ↔ AcceptedStart rule t (answers_alone answers) b
  pub count : (rule : RuleKind) (b : Grid) → AnswersEach rule b answers
      → start_arrivals rule u a b ≡ start_arrivals rule t (answers_alone answers) b

-- The table and the start of these branches: the answer of the start to the reply of each is a node that stands for its tree, and it
-- answers these replies briefly. No two nodes are equal, and the nodes are all those that the start reaches, numbered as walks from
-- those that it names complete them: from that of the rest first, then from those listed.
pub record IsStartOfBranches (branches : Branches) (t : List Node) (a : Answers) : Type 0 where
  pub table : IsTable t
  pub start : IsStart a
  pub below : names_below a (length t) ≡ true
  pub brief : AnswersBriefly a (replies_of branches)
  pub stands : StandsForAll t a branches
  pub different : AreDifferent t
  pub numbered : completed_from t (visits a) ≡ range_with_len 0 (length t)

-- branches have one table and one start
abbrev pub BranchesHaveOneStart : Type 0
BranchesHaveOneStart =
    (branches : Branches) (t u : List Node) (a b : Answers) → IsStartOfBranches branches t a → IsStartOfBranches branches u b
    → (t ≡ u) × (a ≡ b)
