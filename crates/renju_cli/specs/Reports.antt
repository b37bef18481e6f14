-- What the program does in a run.
use Rattle.std.specs.Prelude.{◌⊎◌}
use Rattle.command_base.specs.declared.status.Status.TheVariants.{Usage}
use Rattle.renju_cli.specs.declared.commands.Form.{Form}
use Rattle.command_base.specs.Runs.{Run, IsUnasked, IsDelivered}
use Rattle.renju_cli.specs.Commands.{command, usage_line, IsForm, HasForm}

-- the words have no form: the usage line is due, and input and shelf are not asked
pub record IsUsage (run : Run) : Type 0 where
  pub formless : ¬ HasForm run.words
  pub input : IsUnasked run.input
  pub shelf : IsUnasked run.shelf
  pub delivered : IsDelivered Usage usage_line run.output run.status

-- What the program does: words without a form get the usage line, and words of a form what their command does.
abbrev pub Report : Run → Type 0
Report run = IsUsage run ⊎ ((form : Form) × IsForm run.words form × (command run.words form).Does run)

-- Each command is as sure to answer as it says.
abbrev pub IsComplete : Run → Type 0
IsComplete run = (form : Form) → IsForm run.words form → (command run.words form).Answers run
