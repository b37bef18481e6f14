-- What a form of words stands for.
use Rattle.std.specs.Prelude.{◌≡◌, ℕ, List}
use Rattle.command_base.specs.Runs.{Run}

-- A command with its numbers: its words, what has to hold of the numbers, what it does in a run, and where it is sure to
-- answer in one.
pub record Command : Type 1 where
  pub words : List (List ℕ)
  pub in_range : Type 0
  pub Does : Run → Type 0
  pub Answers : Run → Type 0

-- the words are these, and what has to hold of their numbers holds
pub record HasWords (words wanted : List (List ℕ)) (holds : Type 0) : Type 0 where
  pub spelled : words ≡ wanted
  pub in_range : holds

-- the words are those of the command, whose numbers are in their ranges
abbrev pub IsSpelled : List (List ℕ) → Command → Type 0
IsSpelled words command = HasWords words command.words command.in_range
