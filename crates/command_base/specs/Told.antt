-- Commands that are told: such a command reads its whole input, says a status and a text of it, and writes the text.
use Rattle.std.specs.Prelude.{◌≡◌, ◌⊎◌, ℕ, ◌+◌, ◌≤◌, ◌<◌, List, Option, Some, None, length}
use Rattle.std.specs.Io.KnownBytes.{IsAtEnd}
use Rattle.renju_io.specs.Told.{Takes}
use Rattle.renju_io.specs.declared.TheConstants.{MAX_INPUT_BYTES}
use Rattle.command_base.specs.declared.status.Status.{Status}
use Rattle.command_base.specs.declared.status.Status.TheVariants.{Memory, ReadFault, WriteFault, TooLong}
use Rattle.command_base.specs.Statuses.{status_number}
use Rattle.command_base.specs.Texts.{too_long_line}
use Rattle.command_base.specs.Runs.{Change, Run, HasFailed, IsAskedNoMore, IsUnasked, IsDelivered, IsOutOfMemory}
use Rattle.command_base.specs.Forms.{Command}

-- A command that is told its input: its words, what has to hold of its numbers, the statuses and texts that it says of an
-- input that it has read whole, the inputs for which its numbers are enough, and the statuses that answer one of these.
pub record ToldCommand : Type 1 where
  pub words : List (List ℕ)
  pub in_range : Type 0
  pub Says : List ℕ → Status → List ℕ → Type 0
  pub IsAnswerable : List ℕ → Type 0
  pub IsAnswer : Status → Type 0

-- these are the bytes that the input gave, where it tells its bytes
abbrev pub IsInput : Option (List ℕ) → List ℕ → Type 0
IsInput None bytes = Unit {0}
IsInput (Some told) bytes = told ≡ bytes

-- the input was read to its end and has no more bytes than a command takes, and the command says this of it
pub record IsSaid (Says : List ℕ → Status → List ℕ → Type 0) (input : Change (Option (List ℕ))) (status : Status) (text : List ℕ) :
    Type 0 where
  pub bytes : List ℕ
  pub given : IsInput input.before bytes
  pub fits : length bytes ≤ MAX_INPUT_BYTES
  pub ended : IsAtEnd input.after
  pub says : Says bytes status text

-- the input has more bytes than a command takes, and is only told so, once a read has passed the most of them
pub record IsLongInput (input : Change (Option (List ℕ))) (status : Status) (text : List ℕ) : Type 0 where
  pub bytes : List ℕ
  pub given : IsInput input.before bytes
  pub long : MAX_INPUT_BYTES < length bytes
  pub few : IsAskedNoMore (MAX_INPUT_BYTES + 1) input
  pub ends : status ≡ TooLong
  pub line : text ≡ too_long_line

-- a status and a text are due for the input, and they are delivered
pub record IsAnswered (Says : List ℕ → Status → List ℕ → Type 0) (input output : Change (Option (List ℕ))) (number : ℕ) : Type 0 where
  pub status : Status
  pub text : List ℕ
  pub due : IsSaid Says input status text ⊎ IsLongInput input status text
  pub delivered : IsDelivered status text output number

-- the input failed, and nothing was written
pub record IsReadFault (input output : Change (Option (List ℕ))) (number : ℕ) : Type 0 where
  pub ends : number ≡ status_number ReadFault
  pub failed : HasFailed input
  pub silent : IsUnasked output

-- How a told command ends: it answers, or memory ran out, or the input failed.
abbrev pub EndsTold : (List ℕ → Status → List ℕ → Type 0) → (input output : Change (Option (List ℕ))) → ℕ → Type 0
EndsTold Says input output number = IsAnswered Says input output number ⊎ IsOutOfMemory output number ⊎ IsReadFault input output number

-- what a told command does in a run: it leaves the shelf unasked, and ends so
pub record IsTold (Says : List ℕ → Status → List ℕ → Type 0) (run : Run) : Type 0 where
  pub shelf : IsUnasked run.shelf
  pub ends : EndsTold Says run.input run.output run.status

-- the number is that of a status that stands in place of what a command says: of an input that is too long, of want of memory,
-- or of a fault of a device
abbrev pub IsYielded : ℕ → Type 0
IsYielded number = (number ≡ status_number TooLong) ⊎ (number ≡ status_number Memory) ⊎ (number ≡ status_number ReadFault) ⊎
    (number ≡ status_number WriteFault)

-- What a told command needs to answer: an input that tells these bytes, no more than a command takes, for which its numbers
-- are enough, and devices that count no fault in the run.
pub record IsUnhindered (command : ToldCommand) (run : Run) (bytes : List ℕ) : Type 0 where
  pub told : run.input.before ≡ Some bytes
  pub fits : length bytes ≤ MAX_INPUT_BYTES
  pub answerable : command.IsAnswerable bytes
  pub input_sound : HasFailed run.input → ⊥
  pub output_sound : HasFailed run.output → ⊥

-- the command answered: with the status of an answer, and what it says of the input with that status was written whole
pub record HasToldAnswer (command : ToldCommand) (run : Run) (bytes : List ℕ) : Type 0 where
  pub status : Status
  pub text : List ℕ
  pub answer : command.IsAnswer status
  pub says : command.Says bytes status text
  pub ends : run.status ≡ status_number status
  pub whole : Takes run.output.before text run.output.after

-- A told command that nothing hinders answers, or memory ran out, and then nothing was written.
abbrev pub AnswersTold : ToldCommand → Run → Type 0
AnswersTold command run =
    (bytes : List ℕ) → IsUnhindered command run bytes → HasToldAnswer command run bytes ⊎ IsOutOfMemory run.output run.status

-- a told command among all commands
abbrev pub told : ToldCommand → Command
told command = record {
  words = command.words;
  in_range = command.in_range;
  Does = IsTold command.Says;
  Answers = AnswersTold command;
}
