-- The command `fours`: its words, its answers, and what its statuses 0, 9 and 5 show.
use Rattle.std.proofs.Common.{◌≡◌, inl, inr, ap, ◌∙◌, ℕ, List, IfSome, rules}
use Rattle.position_commands.proofs.Common.{PositionFile, Takes, Status, status_number, Run, IsTold, SaysOfPosition, SpeaksOfPosition}
use Rattle.position_commands.proofs.Common.{ShowsOfPosition, SearchSays, fours_command, IsSearchedByFours}
use Rattle.command_base.proofs.PositionLaws.{search-silent, shows-of-position, found-searched, none-searched, spent-searched}
use Rattle.command_base.proofs.PositionLaws.{yielded-searched}

-- what is said of a position for which the budget is enough is an answer
pub fours-answers : (limit nodes : ℕ) (file : PositionFile) → (fours_command limit nodes).IsEnough file → (status : Status) (text : List ℕ)
    → SearchSays limit nodes file status text → (fours_command limit nodes).IsAnswer status
fours-answers limit nodes file few status text h = search rules

-- ---- statuses 0, 9 and 5

module _ (limit nodes : ℕ) (run : Run) where
  searched-by : (file : PositionFile) (status : Status) (text : List ℕ) → run.status ≡ status_number status
      → Takes run.output.before text run.output.after → SearchSays limit nodes file status text → IsSearchedByFours limit nodes file run
  searched-by file status text ends whole (inl found) =
      found-searched _ _ _ _ run (ends ∙ ap status_number found.ends) found.enough (record { text = text; win = found.win; whole = whole })
  searched-by file status text ends whole (inr (inl denied)) =
      none-searched _ _ _ _ run (ends ∙ ap status_number denied.ends) denied.enough denied.none
  searched-by file status text ends whole (inr (inr spent)) = spent-searched _ _ _ _ run (ends ∙ ap status_number spent.ends) spent.more

  -- what `fours` did in a run
  pub fours-searched : IsTold (SaysOfPosition (SearchSays limit nodes)) run
      → IfSome run.input.before (ShowsOfPosition (SpeaksOfPosition run.status) (λ file. IsSearchedByFours limit nodes file run))
  fours-searched = shows-of-position (SearchSays limit nodes) SpeaksOfPosition search-silent run
      (λ file. IsSearchedByFours limit nodes file run) searched-by (λ file. yielded-searched _ _ _ _ run)
