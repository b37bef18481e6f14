-- Commands that are told a position: the text is read, and why it is refused is told, or else something of the position.
use Rattle.std.specs.Prelude.{◌⊎◌, ℕ, List}
use Rattle.game_rules.specs.Grid.{Grid}
use Rattle.game_rules.specs.Play.{IsPosition}
use Rattle.game_rules.specs.declared.RuleKind.{RuleKind}
use Rattle.position_files.specs.declared.PositionFile.{PositionFile}
use Rattle.position_files.specs.Positions.{IsTextOfPosition}
use Rattle.position_files.specs.Faults.{IsPositionFault}
use Rattle.command_base.specs.declared.status.Status.{Status}
use Rattle.command_base.specs.Refusals.{IsRefusedText}
use Rattle.command_base.specs.Told.{ToldCommand}

-- the position at a board under a rule
abbrev pub file_at : RuleKind → Grid → PositionFile
file_at rule b = record { kind = rule; board = b }

-- the input is the text of a lawful position
pub record IsPositionAt (file : PositionFile) (input : List ℕ) : Type 0 where
  pub text : IsTextOfPosition file input
  pub lawful : IsPosition file.kind file.board

-- What is said of an input that is to be a position and was read whole: why the text is refused, or else what is said of the
-- position.
abbrev pub SaysOfPosition : (PositionFile → Status → List ℕ → Type 0) → List ℕ → Status → List ℕ → Type 0
SaysOfPosition Says input status text =
    IsRefusedText (IsPositionFault input) status text ⊎ ((file : PositionFile) × IsPositionAt file input × Says file status text)

-- A command that is told a position: its words, what has to hold of its numbers, the statuses and texts that it says of a lawful
-- position, the positions for which its numbers are enough, and the statuses that answer one of these.
pub record PositionCommand : Type 1 where
  pub words : List (List ℕ)
  pub in_range : Type 0
  pub Says : PositionFile → Status → List ℕ → Type 0
  pub IsEnough : PositionFile → Type 0
  pub IsAnswer : Status → Type 0

-- a command that is told a position, as one that is told its input: it answers for each lawful position for which its numbers are enough
abbrev pub of_position : PositionCommand → ToldCommand
of_position command = record {
  words = command.words;
  in_range = command.in_range;
  Says = SaysOfPosition command.Says;
  IsAnswerable = λ input. (file : PositionFile) × IsPositionAt file input × command.IsEnough file;
  IsAnswer = command.IsAnswer;
}
