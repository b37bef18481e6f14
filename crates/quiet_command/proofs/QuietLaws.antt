-- The command `quiet`: its answers, and what its statuses show.
use Rattle.std.proofs.Common.{◌≡◌, inl, inr, sym, ap, ◌∙◌, ◌⊎◌, ℕ, List, arith, IfSome}
use Rattle.position_files.specs.declared.PositionFile.{PositionFile}
use Rattle.renju_io.specs.Told.{Takes}
use Rattle.command_base.specs.declared.status.Status.{Status}
use Rattle.command_base.specs.Statuses.{status_number}
use Rattle.command_base.specs.Runs.{Run}
use Rattle.command_base.specs.Told.{IsTold, IsYielded}
use Rattle.command_base.specs.Positions.{SaysOfPosition}
use Rattle.command_base.specs.Searches.{ShowsOfPosition}
use Rattle.command_base.proofs.PositionLaws.{shows-of-position}
use Rattle.position_commands.proofs.Searches.{text-wins}
use Rattle.solve_command.specs.Solves.{WritesSolution}
use Rattle.solve_command.proofs.SolveLaws.{solved-by}
use Rattle.quiet_command.proofs.Common.{IsQuietlySolved, IsSureWin, IsUnsolved, IsUnsure, QuietSays, SpeaksOfQuietWin, WritesQuietWin}
use Rattle.quiet_command.proofs.Common.{quiet_command}

-- what `none` or `spent` of `solve` shows, but for its tree
unsure : (limit nodes : ℕ) (file : PositionFile) → IsUnsolved limit nodes file → IsUnsure limit nodes file
unsure limit nodes file (inl unwon) = (unwon.left, inl (unwon.none, unwon.denial))
unsure limit nodes file (inr undecided) = (undecided.left, inr undecided.more)

-- where that is so, `solve` is sure of no win
not-sure : (limit nodes : ℕ) (file : PositionFile) → IsUnsure limit nodes file → IsSureWin limit nodes file → ⊥
not-sure limit nodes file is (inl fours) = is.0.no_fours fours
not-sure limit nodes file is (inr (inl line)) = is.0.no_line line
not-sure limit nodes file is (inr (inr threats)) =
    elim is.1 [ inl none ↦ none.0 threats.0 | inr more ↦ let few = threats.1 in omega (arith, more, few) ]

-- what is said of a position at which `solve` is sure of a win is an answer
pub quiet-answers : (limit nodes : ℕ) (file : PositionFile) → (quiet_command limit nodes).IsEnough file → (status : Status) (text : List ℕ)
    → QuietSays limit nodes file status text → (quiet_command limit nodes).IsAnswer status
quiet-answers limit nodes file sure status text (inl solution) = solution.decides
quiet-answers limit nodes file sure status text (inr (inl quiet)) = inl quiet.ends
quiet-answers limit nodes file sure status text (inr (inr unfound)) =
    absurd (not-sure limit nodes file (unsure limit nodes file unfound.unsolved) sure)

-- a status that stands in place of others speaks of no position, nor does that of a refused text
silent : (number : ℕ) → IsYielded number ⊎ (number ≡ 3) → SpeaksOfQuietWin number → ⊥
silent number other e = grind arith

module _ (limit nodes : ℕ) (run : Run) where
  done-shown : (file : PositionFile) → run.status ≡ 0
      → WritesSolution limit nodes file run.output ⊎ WritesQuietWin limit nodes file run.output
      → IsQuietlySolved limit nodes file run
  done-shown file here writes = record {
    won = λ e. writes;
    spent = λ (e : run.status ≡ 5). absurd (let no : 0 ≡ 5 = sym here ∙ e in cc);
    full = λ (e : run.status ≡ 12). absurd (let no : 0 ≡ 12 = sym here ∙ e in cc);
    by_fours = λ h. inl here;
    sure = λ h. inl here;
    only = inl (inl here);
  }

  shown-by : (file : PositionFile) (status : Status) (text : List ℕ) → run.status ≡ status_number status
      → Takes run.output.before text run.output.after → QuietSays limit nodes file status text → IsQuietlySolved limit nodes file run
  shown-by file status text ends whole (inl solution) =
      let solved = solved-by limit nodes run file text whole status ends solution.says in
      elim solution.decides [
        | inl done ↦ let here = ends ∙ ap status_number done in done-shown file here (inl (solved.won here))
        | inr full ↦
            let here = ends ∙ ap status_number full in
            record {
              won = λ (e : run.status ≡ 0). absurd (let no : 12 ≡ 0 = sym here ∙ e in cc);
              spent = λ (e : run.status ≡ 5). absurd (let no : 12 ≡ 5 = sym here ∙ e in cc);
              full = solved.full;
              by_fours = solved.by_fours;
              sure = λ h. inr (inl here);
              only = inl (inr (inr here));
            }
      ]
  shown-by file status text ends whole (inr (inl quiet)) = done-shown file (ends ∙ ap status_number quiet.ends) (inr (record {
    unsure = unsure limit nodes file quiet.unsolved;
    text = text;
    win = quiet.win;
    whole = whole;
    wins = text-wins limit file text quiet.win;
  }))
  shown-by file status text ends whole (inr (inr unfound)) =
      let here = ends ∙ ap status_number unfound.ends in
      let is = unsure limit nodes file unfound.unsolved in
      record {
        won = λ (e : run.status ≡ 0). absurd (let no : 5 ≡ 0 = sym here ∙ e in cc);
        spent = λ e. is;
        full = λ (e : run.status ≡ 12). absurd (let no : 5 ≡ 12 = sym here ∙ e in cc);
        by_fours = λ h. absurd (not-sure limit nodes file is (inl h));
        sure = λ h. absurd (not-sure limit nodes file is h);
        only = inl (inr (inl here));
      }

  yielded-shown : (file : PositionFile) → IsYielded run.status → IsQuietlySolved limit nodes file run
  yielded-shown file y = record {
    won = λ e. absurd (silent run.status (inl y) (inl e));
    spent = λ e. absurd (silent run.status (inl y) (inr (inl e)));
    full = λ e. absurd (silent run.status (inl y) (inr (inr e)));
    by_fours = λ h. inr y;
    sure = λ h. inr (inr y);
    only = inr y;
  }

  -- what `quiet` did in a run
  pub quiet-shown : IsTold (SaysOfPosition (QuietSays limit nodes)) run
      → IfSome run.input.before (ShowsOfPosition (SpeaksOfQuietWin run.status) (λ file. IsQuietlySolved limit nodes file run))
  quiet-shown = shows-of-position (QuietSays limit nodes) SpeaksOfQuietWin silent run (λ file. IsQuietlySolved limit nodes file run)
      shown-by yielded-shown
