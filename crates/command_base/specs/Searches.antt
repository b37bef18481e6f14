-- What the statuses of a command that searches at a position show of it.
use Rattle.std.specs.Prelude.{◌≡◌, ◌⊎◌, ℕ, ◌≤◌, ◌<◌, List}
use Rattle.position_files.specs.declared.PositionFile.{PositionFile}
use Rattle.command_base.specs.declared.status.Status.TheVariants.{Done, Spent, NotFound}
use Rattle.command_base.specs.Statuses.{status_number}
use Rattle.command_base.specs.Runs.{Run}
use Rattle.command_base.specs.Told.{IsYielded}
use Rattle.command_base.specs.Positions.{IsPositionAt}

-- the statuses of `fours` and `threats` that speak of a position
abbrev pub SpeaksOfPosition : ℕ → Type 0
SpeaksOfPosition number = (number ≡ status_number Done) ⊎ (number ≡ status_number NotFound) ⊎ (number ≡ status_number Spent)

-- What the statuses of `fours` and `threats` say of the lawful position that is the input: 0 that the budget is enough for the
-- cost of the search, and what is found is written; 9 that it is enough, and there is none; 5 that it is not enough. One of them
-- comes, so each comes exactly there, unless the status is one that stands in place of each.
pub record IsSearched (cost nodes : ℕ) (is_written is_lacking : Type 0) (run : Run) : Type 0 where
  pub found : run.status ≡ status_number Done → (cost ≤ nodes) × is_written
  pub none : run.status ≡ status_number NotFound → (cost ≤ nodes) × is_lacking
  pub spent : run.status ≡ status_number Spent → nodes < cost
  pub only : SpeaksOfPosition run.status ⊎ IsYielded run.status

-- Where a status speaks of a position, the bytes are the text of a lawful one; and of each lawful position whose text they are
-- this holds.
pub record ShowsOfPosition (speaks : Type 0) (Holds : PositionFile → Type 0) (bytes : List ℕ) : Type 0 where
  pub lawful : speaks → (file : PositionFile) × IsPositionAt file bytes
  pub says : (file : PositionFile) → IsPositionAt file bytes → Holds file
