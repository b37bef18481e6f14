-- The answers to the replies at a position.
use Rattle.std.specs.Prelude.{◌≡◌, ℕ, Bool, true, false, List, [], ◌∷◌, ◌++◌, map, Option, Some, None}
use Rattle.std.specs.List.{filter, AllByRecursion}
use Rattle.game_rules.specs.Grid.{Grid, points_of}
use Rattle.game_rules.specs.Play.{outcome, after, goes_on_with}
use Rattle.game_rules.specs.Games.{loses_or}
use Rattle.game_rules.specs.declared.RuleKind.{RuleKind}
use Rattle.game_rules.specs.declared.Point.{Point}
use Rattle.strategy_graph.specs.declared.Reply.{Reply}
use Rattle.strategy_graph.specs.declared.Node.{Node}
use Rattle.strategy_graph.specs.Tables.{depth, greatest}
use Rattle.strategy_compiler.specs.Replies.{IsBeatenBy}
use Rattle.line_proof.specs.declared.answers.Answering.{Answering}

-- those of the points that are moves at c that go on
abbrev pub going_on : RuleKind → Grid → List Point → List Point
going_on rule c qs = filter (λ q. goes_on_with (outcome rule c q) true) qs

-- answers to replies at c: each wins within n moves, and the most moves that one of them takes are told
pub record AreAnswers (rule : RuleKind) (n : ℕ) (t : List Node) (c : Grid) (a : Answering) : Type 0 where
  pub wins : AllByRecursion (IsBeatenBy rule n c t) a.replies.items
  pub most : a.moves ≡ greatest (map (depth t) (map (λ r. r.next) a.replies.items))

-- the replies that are answered, in their order
abbrev pub answered : Answering → List Point
answered a = map (λ r. r.at) a.replies.items

-- such answers to all replies at c that go on
pub record AnswersAll (rule : RuleKind) (n : ℕ) (t : List Node) (c : Grid) (a : Answering) : Type 0 where
  pub answers : AreAnswers rule n t c a
  pub all : answered a ≡ going_on rule c (points_of c)

-- what is found at c: answers to all replies where each of them loses, and else nothing
abbrev pub FindsAnswers : RuleKind → ℕ → List Node → Grid → Bool → Option Answering → Type 0
FindsAnswers rule n t c lost None = lost ≡ false
FindsAnswers rule n t c lost (Some a) = (lost ≡ true) × AnswersAll rule n t c a

-- what becomes of the answers by the reply q at c: it is no move, fouls, or goes on to a board that is won, and it has an answer too if it
-- goes on; or else it does not lose
abbrev pub IsAnswered : RuleKind → ℕ → List Node → Grid → Point → (Grid → Bool) → Answering → Answering → Bool → Type 0
IsAnswered rule n t c q won old new true =
    (loses_or (outcome rule c q) (won (after c q)) ≡ true) × AreAnswers rule n t c new
    × (answered new ≡ answered old ++ going_on rule c (q ∷ []))
IsAnswered rule n t c q won old new false = loses_or (outcome rule c q) (won (after c q)) ≡ false
