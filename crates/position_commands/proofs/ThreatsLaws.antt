-- The command `threats`: its words, its answers, and what its statuses 0, 9 and 5 show.
use Rattle.std.proofs.Common.{◌≡◌, inl, inr, ap, ◌∙◌, ℕ, List, IfSome, rules}
use Rattle.position_commands.proofs.Common.{PositionFile, Takes, Status, status_number, Run, IsTold, SaysOfPosition, SpeaksOfPosition}
use Rattle.position_commands.proofs.Common.{ShowsOfPosition, SequenceSays, threats_command, IsSequenceSearched}
use Rattle.command_base.proofs.PositionLaws.{search-silent, shows-of-position, found-searched, none-searched, spent-searched}
use Rattle.command_base.proofs.PositionLaws.{yielded-searched}

-- what is said of a position for which the budget is enough is an answer
pub threats-answers : (limit nodes : ℕ) (file : PositionFile) → (threats_command limit nodes).IsEnough file
    → (status : Status) (text : List ℕ) → SequenceSays limit nodes file status text → (threats_command limit nodes).IsAnswer status
threats-answers limit nodes file few status text h = search rules

-- ---- statuses 0, 9 and 5

module _ (limit nodes : ℕ) (run : Run) where
  searched-by : (file : PositionFile) (status : Status) (text : List ℕ) → run.status ≡ status_number status
      → Takes run.output.before text run.output.after → SequenceSays limit nodes file status text → IsSequenceSearched limit nodes file run
  searched-by file status text ends whole (inl found) =
      found-searched _ _ _ _ run (ends ∙ ap status_number found.ends) found.enough (record {
        threats = found.threats;
        last = found.last;
        first = found.first;
        whole = rw found.written at whole;
      })
  searched-by file status text ends whole (inr (inl none)) =
      none-searched _ _ _ _ run (ends ∙ ap status_number none.ends) none.enough none.none
  searched-by file status text ends whole (inr (inr spent)) = spent-searched _ _ _ _ run (ends ∙ ap status_number spent.ends) spent.more

  -- what `threats` did in a run
  pub threats-searched : IsTold (SaysOfPosition (SequenceSays limit nodes)) run
      → IfSome run.input.before (ShowsOfPosition (SpeaksOfPosition run.status) (λ file. IsSequenceSearched limit nodes file run))
  threats-searched = shows-of-position (SequenceSays limit nodes) SpeaksOfPosition search-silent run
      (λ file. IsSequenceSearched limit nodes file run) searched-by (λ file. yielded-searched _ _ _ _ run)
