-- The command `solve`: its words, its answers, and what its statuses show.
use Rattle.std.proofs.Common.{◌≡◌, inl, inr, sym, ap, ◌∙◌, ◌⊎◌, ℕ, List, length, arith, IfSome, rules}
use Rattle.game_rules.proofs.Games.{WinsUnder-more}
use Rattle.position_files.specs.declared.PositionFile.{PositionFile}
use Rattle.renju_io.specs.Told.{Takes}
use Rattle.command_base.specs.declared.status.Status.{Status}
use Rattle.command_base.specs.Statuses.{status_number}
use Rattle.command_base.specs.Runs.{Run}
use Rattle.command_base.specs.Told.{IsTold, IsYielded}
use Rattle.command_base.specs.Positions.{SaysOfPosition}
use Rattle.command_base.specs.Searches.{ShowsOfPosition}
use Rattle.position_commands.specs.Fours.{IsFoundWin, IsWinText}
use Rattle.solve_command.proofs.Common.{IsWonByAStep, IsWonByFours, SolutionSays, solve_command, WritesSolution, SpeaksOfSolution, IsSolved}
use Rattle.command_base.proofs.PositionLaws.{shows-of-position}
use Rattle.position_commands.proofs.Searches.{text-wins}

-- what is said of a position for which the budget is enough is an answer
pub solve-answers : (limit nodes : ℕ) (file : PositionFile) → (solve_command limit nodes).IsEnough file → (status : Status) (text : List ℕ)
    → SolutionSays limit nodes file status text → (solve_command limit nodes).IsAnswer status
solve-answers limit nodes file few status text h = search rules

-- a win that `fours` finds is one of the first step
first-won : (limit nodes : ℕ) (file : PositionFile) (status : Status) (text : List ℕ) → IsFoundWin limit nodes file status text
    → IsWonByFours limit nodes file
first-won limit nodes file status text found = search (WinsUnder-more)

-- ---- the statuses

-- a status that stands in place of others speaks of no position, nor does that of a refused text
silent : (number : ℕ) → IsYielded number ⊎ (number ≡ 3) → SpeaksOfSolution number → ⊥
silent number other e = grind arith

module _ (limit nodes : ℕ) (run : Run) where
  module _ (file : PositionFile) (text : List ℕ) (whole : Takes run.output.before text run.output.after) where
    -- the table that is written wins within the limit
    writes : (win : IsWinText limit file text) → IsWonByAStep limit nodes file (length win.table)
        → WritesSolution limit nodes file run.output
    writes win way = search (text-wins)

    done-solved : run.status ≡ 0 → (win : IsWinText limit file text) → IsWonByAStep limit nodes file (length win.table)
        → IsSolved limit nodes file run
    done-solved here win way = record {
      won = λ e. writes win way;
      none = λ (e : run.status ≡ 9). absurd (let no : 0 ≡ 9 = sym here ∙ e in cc);
      denial = λ (e : run.status ≡ 9). absurd (let no : 0 ≡ 9 = sym here ∙ e in cc);
      spent = λ (e : run.status ≡ 5). absurd (let no : 0 ≡ 5 = sym here ∙ e in cc);
      full = λ (e : run.status ≡ 12). absurd (let no : 0 ≡ 12 = sym here ∙ e in cc);
      by_fours = λ h. inl here;
      by_line = λ h. inl here;
      only = inl (inl here);
    }

    pub solved-by : (status : Status) → run.status ≡ status_number status → SolutionSays limit nodes file status text
        → IsSolved limit nodes file run
    solved-by status ends (inl first) = done-solved (ends ∙ ap status_number first.found.ends) first.win
        (inl (first-won limit nodes file status text first.found, first.few))
    solved-by status ends (inr (inl line)) = done-solved (ends ∙ ap status_number line.ends) line.win
        (inr (inl (line.along, line.few)))
    solved-by status ends (inr (inr (inl threats))) = done-solved (ends ∙ ap status_number threats.ends) threats.win
        (inr (inr (threats.by_threats, threats.few)))
    solved-by status ends (inr (inr (inr (inl unwon)))) =
        let here = ends ∙ ap status_number unwon.ends in
        record {
          won = λ (e : run.status ≡ 0). absurd (let no : 9 ≡ 0 = sym here ∙ e in cc);
          none = λ e. unwon.none;
          denial = λ e. unwon.denial;
          spent = λ (e : run.status ≡ 5). absurd (let no : 9 ≡ 5 = sym here ∙ e in cc);
          full = λ (e : run.status ≡ 12). absurd (let no : 9 ≡ 12 = sym here ∙ e in cc);
          by_fours = λ h. absurd (unwon.left.no_fours h);
          by_line = λ h. absurd (unwon.left.no_line h);
          only = inl (inr (inl here));
        }
    solved-by status ends (inr (inr (inr (inr (inl undecided))))) =
        let here = ends ∙ ap status_number undecided.ends in
        record {
          won = λ (e : run.status ≡ 0). absurd (let no : 5 ≡ 0 = sym here ∙ e in cc);
          none = λ (e : run.status ≡ 9). absurd (let no : 5 ≡ 9 = sym here ∙ e in cc);
          denial = λ (e : run.status ≡ 9). absurd (let no : 5 ≡ 9 = sym here ∙ e in cc);
          spent = λ e. undecided.more;
          full = λ (e : run.status ≡ 12). absurd (let no : 5 ≡ 12 = sym here ∙ e in cc);
          by_fours = λ h. absurd (undecided.left.no_fours h);
          by_line = λ h. absurd (undecided.left.no_line h);
          only = inl (inr (inr (inl here)));
        }
    solved-by status ends (inr (inr (inr (inr (inr great))))) =
        let here = ends ∙ ap status_number great.ends in
        record {
          won = λ (e : run.status ≡ 0). absurd (let no : 12 ≡ 0 = sym here ∙ e in cc);
          none = λ (e : run.status ≡ 9). absurd (let no : 12 ≡ 9 = sym here ∙ e in cc);
          denial = λ (e : run.status ≡ 9). absurd (let no : 12 ≡ 9 = sym here ∙ e in cc);
          spent = λ (e : run.status ≡ 5). absurd (let no : 12 ≡ 5 = sym here ∙ e in cc);
          full = λ e. great.great;
          by_fours = λ h. absurd (great.later h);
          by_line = λ h. inr (inl here);
          only = inl (inr (inr (inr here)));
        }

  yielded-solved : (file : PositionFile) → IsYielded run.status → IsSolved limit nodes file run
  yielded-solved file y = record {
    won = λ e. absurd (silent run.status (inl y) (inl e));
    none = λ e. absurd (silent run.status (inl y) (inr (inl e)));
    denial = λ e. absurd (silent run.status (inl y) (inr (inl e)));
    spent = λ e. absurd (silent run.status (inl y) (inr (inr (inl e))));
    full = λ e. absurd (silent run.status (inl y) (inr (inr (inr e))));
    by_fours = λ h. inr y;
    by_line = λ h. inr (inr y);
    only = inr y;
  }

  -- what `solve` did in a run
  pub solve-shown : IsTold (SaysOfPosition (SolutionSays limit nodes)) run
      → IfSome run.input.before (ShowsOfPosition (SpeaksOfSolution run.status) (λ file. IsSolved limit nodes file run))
  solve-shown = shows-of-position (SolutionSays limit nodes) SpeaksOfSolution silent run (λ file. IsSolved limit nodes file run)
      (λ file status text ends whole. solved-by file text whole status ends) yielded-solved
