-- The laws of defences that the layers above rest on.
use Rattle.std.specs.Prelude.{◌≡◌, ◌↔◌, ℕ, true, List, [], MatchOption}
use Rattle.game_rules.specs.Grid.{Grid}
use Rattle.game_rules.specs.Games.{WinsAfter}
use Rattle.game_rules.specs.declared.RuleKind.{RuleKind}
use Rattle.game_rules.specs.declared.Point.{Point}
use Rattle.strategy_graph.specs.declared.Reply.{Reply}
use Rattle.strategy_graph.specs.declared.Node.{Node}
use Rattle.strategy_graph.specs.Tables.{Answers}
use Rattle.strategy_compiler.specs.Trees.{AnswersBranches}
use Rattle.strategy_compiler.specs.Starts.{IsMadeOfAnswers}
use Rattle.defence_finder.specs.Defences.{IsDefence, is_defence, beaten_of, defences_of, first_spent, SufficesAfterEach, IsShortAfter}
use Rattle.defence_finder.specs.Answers.{AreBeaten, IsLostStart, plans_after}

-- the test of a defence answers as the fact
abbrev pub DefencesAreTold : Type 0
DefencesAreTold = (rule : RuleKind) (n : ℕ) (b : Grid) (q : Point) → (is_defence rule n b q ≡ true) ↔ IsDefence rule n b q

-- there is a first move after which the budget does not suffice exactly where it does not suffice after some move that goes on
abbrev pub SpentIsTold : Type 0
SpentIsTold =
    (rule : RuleKind) (n budget : ℕ) (b : Grid)
    → MatchOption (first_spent rule n budget b) (SufficesAfterEach rule n budget b) (IsShortAfter rule n budget b)

-- where there is no defence the other side wins within n moves, whatever is played first
abbrev pub NoDefenceLoses : Type 0
NoDefenceLoses = (rule : RuleKind) (n : ℕ) (b : Grid) → defences_of rule n b ≡ [] → WinsAfter rule n b

-- and the table and the start that a compiler makes of the beaten replies win so
abbrev pub BeatenRepliesWin : Type 0
BeatenRepliesWin =
    (rule : RuleKind) (n : ℕ) (b : Grid) (t : List Node) (bad : List Reply) (u : List Node) (a : Answers) → defences_of rule n b ≡ []
    → AreBeaten rule n b t bad → IsMadeOfAnswers t bad u a → IsLostStart rule n b u a

-- the answers to the beaten replies stand for the branches of their plans, of which a start is one and the same however it is compiled
abbrev pub BeatenRepliesArePlanned : Type 0
BeatenRepliesArePlanned =
    (rule : RuleKind) (n : ℕ) (b : Grid) (t : List Node) (bad : List Reply) → AreBeaten rule n b t bad
    → AnswersBranches t bad (plans_after rule n b (beaten_of rule n b))
