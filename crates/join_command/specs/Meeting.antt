-- What becomes of the replies at a position.
use Rattle.std.specs.Prelude.{◌≡◌, ℕ, List, map, Option, Some, slice_get}
use Rattle.std.specs.List.{AllByRecursion, filter}
use Rattle.game_rules.specs.Grid.{Grid, points_of}
use Rattle.game_rules.specs.Play.{after, goes_on, outcome}
use Rattle.game_rules.specs.Games.{LosesOr}
use Rattle.game_rules.specs.declared.RuleKind.{RuleKind}
use Rattle.game_rules.specs.declared.Outcome.TheVariants.{GoesOn}
use Rattle.game_rules.specs.declared.Point.{Point}
use Rattle.strategy_graph.specs.declared.Reply.{Reply}
use Rattle.position_files.specs.declared.TableFile.{TableFile}
use Rattle.join_command.specs.Asking.{IsFirst}
use Rattle.join_command.specs.Answering.{AnswersAt, IsOpenReply, MayBeAsked}
use Rattle.join_command.specs.declared.meeting.Meeting.{Meeting}
use Rattle.join_command.specs.declared.meeting.Meeting.TheVariants.{Lost, Open, By}
use Rattle.join_command.specs.declared.meeting.Met.{Met}
use Rattle.join_command.specs.declared.meeting.Met.TheVariants.{Each, Open as OpenAt}

-- the list has a root for each file that may be asked at b
abbrev pub HaveRoots : List TableFile → List (Option ℕ) → Grid → Type 0
HaveRoots files roots b =
    (k : ℕ) (file : TableFile) (i : ℕ) → slice_get files k ≡ Some file → MayBeAsked b file i → (j : ℕ) × (slice_get roots k ≡ Some (Some j))

-- what becomes of the reply q at b: it is no move or fouls, is open, or goes on to a board at which this file answers
abbrev pub IsMet : RuleKind → List TableFile → Grid → Point → Meeting → Type 0
IsMet rule files b q Lost = LosesOr (outcome rule b q) ⊥
IsMet rule files b q Open = IsOpenReply rule files b q
IsMet rule files b q (By found) = (outcome rule b q ≡ GoesOn) × AnswersAt rule files (after b q) found.file × IsFirst files found.first

-- the reply is answered by the root that the list has of a file that answers after it
abbrev pub IsAnswered : RuleKind → List TableFile → List (Option ℕ) → Grid → Reply → Type 0
IsAnswered rule files roots b r =
    (outcome rule b r.at ≡ GoesOn)
    × ((k : ℕ) × AnswersAt rule files (after b r.at) k × (slice_get roots k ≡ Some (Some r.next)))

-- No reply at b wins or draws, and these are those that go on, in reading order, each with its answer.
pub record AreAnswered (rule : RuleKind) (files : List TableFile) (roots : List (Option ℕ)) (b : Grid) (answers : List Reply) : Type 0 where
  pub lost : (q : Point) → LosesOr (outcome rule b q) (Unit {0})
  pub points : map (λ r. r.at) answers ≡ filter (λ q. goes_on (outcome rule b q)) (points_of b)
  pub each : AllByRecursion (IsAnswered rule files roots b) answers

-- what becomes of all replies: each that goes on is answered, or one is open
abbrev pub AreMet : RuleKind → List TableFile → List (Option ℕ) → Grid → Met → Type 0
AreMet rule files roots b (Each answers) = AreAnswered rule files roots b answers.items
AreMet rule files roots b (OpenAt q) = IsOpenReply rule files b q
