-- What follows of a run from its report: the command of its form did what it does, and so answered where it is sure to.
use Rattle.std.proofs.Common.{◌≡◌, inl, inr, subst, ℕ, List, Option}
use Rattle.renju_cli.specs.declared.commands.Form.{Form}
use Rattle.renju_cli.specs.declared.commands.Form.TheVariants.{BrainWith, RefereeWith, Bind, Cover, Join}
use Rattle.command_base.specs.Runs.{Run}
use Rattle.command_base.specs.Forms.{HasWords}
use Rattle.renju_cli.proofs.Common.{second_word, words_after, words_after_second, words_after_third, command, IsForm, Report, IsComplete}
use Rattle.brain_commands.specs.Brains.{IsBrainWith}
use Rattle.table_commands.specs.Referees.{IsRefereeWith}
use Rattle.table_commands.specs.Binds.{IsBind}
use Rattle.game_rules.specs.declared.Point.{Point}
use Rattle.cover_command.specs.Covers.{IsCoverRun}
use Rattle.join_command.specs.Joins.{IsJoinRun}
use Rattle.renju_cli.proofs.EachCommand.{answers}
use Rattle.renju_cli.proofs.FormLaws.{one-form}

-- the command of the words did what it does
pub does-of : (run : Run) → Report run → (form : Form) → IsForm run.words form → (command run.words form).Does run
does-of run (inl usage) form is = absurd (usage.formless (form, is))
does-of run (inr obeyed) form is = subst (λ (f : Form). (command run.words f).Does run) (one-form run.words obeyed.0 form obeyed.1 is)
    obeyed.2

-- what `brain FILE` did with its second word is the report of its run
pub file-reported : (run : Run) (name : List ℕ) → IsForm run.words BrainWith → name ≡ second_word run.words → IsBrainWith name run
    → Report run
file-reported run name form is does = inr (BrainWith, form, subst (λ (n : List ℕ). IsBrainWith n run) is does)

-- what `bind` did with the words after the first is the report of its run
pub bind-reported : (run : Run) (names : List (List ℕ)) → IsForm run.words Bind → names ≡ words_after run.words → IsBind names run
    → Report run
bind-reported run names form is does = inr (Bind, form, subst (λ (ns : List (List ℕ)). IsBind ns run) is does)

-- so is what `cover` did with those after the third
pub cover-reported : (run : Run) (work : ℕ) (attack : Option Point) (names : List (List ℕ)) → IsForm run.words (Cover work attack)
    → names ≡ words_after_third run.words → IsCoverRun work attack names run → Report run
cover-reported run work attack names form is does =
    inr (Cover work attack, form, subst (λ (ns : List (List ℕ)). IsCoverRun work attack ns run) is does)

-- and what `join` did with those after the second
pub join-reported : (run : Run) (attack : Point) (names : List (List ℕ)) → IsForm run.words (Join attack)
    → names ≡ words_after_second run.words → IsJoinRun attack names run → Report run
join-reported run attack names form is does = inr (Join attack, form, subst (λ (ns : List (List ℕ)). IsJoinRun attack ns run) is does)

-- the same of `referee FILE`
pub game-reported : (run : Run) (name : List ℕ) → IsForm run.words RefereeWith → name ≡ second_word run.words → IsRefereeWith name run
    → Report run
game-reported run name form is does = inr (RefereeWith, form, subst (λ (n : List ℕ). IsRefereeWith n run) is does)

pub report-complete : (run : Run) → Report run → IsComplete run
report-complete run report form is = answers form run (does-of run report form is)

-- the words of a command, whose numbers are in their ranges
pub has_words : {words wanted : List (List ℕ)} {holds : Type 0} → words ≡ wanted → holds → HasWords words wanted holds
has_words spelled range = record { spelled = spelled; in_range = range }
