-- What is told of files at a position: which is a table of it, and which has a root that is accepted there by a zone.
use Rattle.std.specs.Prelude.{◌≡◌, ℕ, ◌<◌, ◌≤◌, Bool, true, false, List, length, Option, Some, None, slice_get}
use Rattle.game_rules.specs.Grid.{Grid}
use Rattle.game_rules.specs.declared.RuleKind.{RuleKind}
use Rattle.strategy_graph.specs.Acceptance.{Accepted}
use Rattle.position_files.specs.declared.TableFile.{TableFile}
use Rattle.join_command.specs.Answering.{AnswersAt, HasNoAnswer, HasNoZone, IsTableOf, MayBeAsked}
use Rattle.join_command.specs.declared.answering.Found.{Found}

-- none of the files is a table of b; or file k is the first that is
abbrev pub IsFirstTable : RuleKind → Grid → List TableFile → Option ℕ → Type 0
IsFirstTable rule b files None = (j : ℕ) (other : TableFile) → slice_get files j ≡ Some other → ¬ IsTableOf rule b other
IsFirstTable rule b files (Some k) =
    (file : TableFile) × (slice_get files k ≡ Some file) × IsTableOf rule b file
    × ((j : ℕ) (other : TableFile) → slice_get files j ≡ Some other → IsTableOf rule b other → k ≤ j)

-- the file may be asked at b, and its root is accepted there
abbrev pub IsAcceptedAt : RuleKind → Grid → TableFile → Type 0
IsAcceptedAt rule b file = (i : ℕ) × MayBeAsked b file i × Accepted rule file.table i b

-- where the file may be asked at b, its root has no zone there
abbrev pub LacksZone : RuleKind → Grid → TableFile → Type 0
LacksZone rule b file = (i : ℕ) → MayBeAsked b file i → HasNoZone rule file.table i b

-- what is told of the zone of a file's root
abbrev pub IsZoneTold : RuleKind → Grid → TableFile → Bool → Type 0
IsZoneTold rule b file true = IsAcceptedAt rule b file
IsZoneTold rule b file false = LacksZone rule b file

-- no file from this number up to that one has a zone; or the root of file k is accepted
abbrev pub IsZoneFound : RuleKind → List TableFile → Grid → ℕ → ℕ → Option ℕ → Type 0
IsZoneFound rule files b from to None =
    (j : ℕ) (other : TableFile) → from ≤ j → j < to → slice_get files j ≡ Some other → LacksZone rule b other
IsZoneFound rule files b from to (Some k) = (file : TableFile) × (slice_get files k ≡ Some file) × IsAcceptedAt rule b file

-- the file that is asked first, where one is named, is no further than the files
abbrev pub IsFirst : List TableFile → Option ℕ → Type 0
IsFirst files None = Unit {0}
IsFirst files (Some k) = k ≤ length files

-- no file has an answer at b; or the file that is found answers
abbrev pub IsAnswerTold : RuleKind → List TableFile → Grid → Option Found → Type 0
IsAnswerTold rule files b None = (j : ℕ) (other : TableFile) → slice_get files j ≡ Some other → HasNoAnswer rule b other
IsAnswerTold rule files b (Some found) = AnswersAt rule files b found.file × IsFirst files found.first
