-- The command `drill`: its words, the lines that it prints, and what its status 0 shows.
use Rattle.std.specs.Prelude.{◌≡◌, ◌⊎◌, ℕ, ◌≤◌, List, [], ◌∷◌, ◌++◌, codes, Option}
use Rattle.std.specs.Fmt.{decimal}
use Rattle.text_lines.specs.Lines.{ended}
use Rattle.renju_io.specs.Told.{Takes}
use Rattle.strength_drill.specs.declared.TheConstants.{POSITIONS}
use Rattle.strength_drill.specs.declared.counts.Counts.{Counts}
use Rattle.strength_drill.specs.Counts.{IsCounted, AreOnlyCounts}
use Rattle.brain_commands.specs.declared.TheConstants.{MAX_DRILL}
use Rattle.command_base.specs.declared.status.Status.TheVariants.{Done}
use Rattle.command_base.specs.Statuses.{status_number}
use Rattle.command_base.specs.Runs.{Change, Run, HasFailed, IsUnasked, IsDelivered, IsOutOfMemory}
use Rattle.command_base.specs.Forms.{Command}

-- The lines

-- the line of the searches
abbrev pub search_line : ℕ → ℕ → ℕ → List ℕ
search_line wins none spent = ended (codes "wins " ++ decimal wins ++ codes " none " ++ decimal none ++ codes " spent " ++ decimal spent)

-- the line of the games
abbrev pub game_line : ℕ → ℕ → List ℕ
game_line games moves = ended (codes "games " ++ decimal games ++ codes " moves " ++ decimal moves)

-- the five lines of a drill
abbrev pub drill_lines : ℕ → Counts → List ℕ
drill_lines n c =
    ended (codes "drill " ++ decimal n)
    ++ ended (codes "positions " ++ decimal POSITIONS)
    ++ search_line c.wins c.none c.spent
    ++ ended (codes "accepted " ++ decimal c.accepted)
    ++ game_line c.games c.moves

-- the text is that of the drill of the number
pub record IsDrillText (n : ℕ) (text : List ℕ) : Type 0 where
  pub counts : Counts
  pub counted : IsCounted n counts
  pub lines : text ≡ drill_lines n counts

-- The command

-- the words `drill N`, with the number in decimal without leading zeros
abbrev pub drill_words : ℕ → List (List ℕ)
drill_words n = codes "drill" ∷ decimal n ∷ []

-- the text of the drill is due, or memory ran out before anything was written
abbrev pub EndsDrill : ℕ → Change (Option (List ℕ)) → ℕ → Type 0
EndsDrill n output number = ((text : List ℕ) × IsDrillText n text × IsDelivered Done text output number) ⊎ IsOutOfMemory output number

-- what `drill` does in a run: it leaves input and shelf unasked, and ends so
pub record IsDrill (n : ℕ) (run : Run) : Type 0 where
  pub input : IsUnasked run.input
  pub shelf : IsUnasked run.shelf
  pub ends : EndsDrill n run.output run.status

-- the text of the drill was written whole
pub record WritesDrill (n : ℕ) (run : Run) : Type 0 where
  pub text : List ℕ
  pub drilled : IsDrillText n text
  pub ends : run.status ≡ status_number Done
  pub whole : Takes run.output.before text run.output.after

-- where the output counts no fault the text is written whole, or memory ran out
abbrev pub AnswersDrill : ℕ → Run → Type 0
AnswersDrill n run = (HasFailed run.output → ⊥) → WritesDrill n run ⊎ IsOutOfMemory run.output run.status

-- `drill N`, with N up to MAX_DRILL
abbrev pub drill_command : ℕ → Command
drill_command n = record {
  words = drill_words n;
  in_range = n ≤ MAX_DRILL;
  Does = IsDrill n;
  Answers = AnswersDrill n;
}

-- What status 0 of `drill` shows: the lines with the counts of the number, whose accepted tables and won games are as many as the
-- wins, were written whole.
pub record ShowsCounts (n : ℕ) (run : Run) : Type 0 where
  pub counts : Counts
  pub counted : IsCounted n counts
  pub only : AreOnlyCounts n counts
  pub whole : Takes run.output.before (drill_lines n counts) run.output.after

-- The headline of the drill.
abbrev pub ShowsDrill : Run → Type 0
ShowsDrill run = (n : ℕ) → run.words ≡ drill_words n → n ≤ MAX_DRILL → run.status ≡ 0 → ShowsCounts n run
