-- Commands that are told a position: what is said of a text that is that of a lawful one, and which statuses speak of it.
use Rattle.std.proofs.Common.{◌≡◌, inl, inr, ap, subst, ◌∙◌, ◌⊎◌, ℕ, ◌≤◌, ◌<◌, List, arith, IfSome}
use Rattle.position_files.specs.declared.PositionFile.{PositionFile}
use Rattle.position_files.proofs.ReadBack.{position-read-back}
use Rattle.renju_io.specs.Told.{Takes}
use Rattle.command_base.specs.declared.status.Status.{Status}
use Rattle.command_base.proofs.Common.{status_number, Run, AnswersTold, IsTold, IsYielded, IsPositionAt, PositionCommand, SaysOfPosition}
use Rattle.command_base.proofs.Common.{of_position, SpeaksOfPosition, IsSearched, ShowsOfPosition}
use Rattle.command_base.proofs.ToldLaws.{IsWhole, answers-told, whole-or-yielded, given-told, every-told}

-- the text of a lawful position is not refused, and no other position has it: so what is said is said of this one
pub said-of-position : (Says : PositionFile → Status → List ℕ → Type 0) (bytes : List ℕ) (file : PositionFile) → IsPositionAt file bytes
    → (status : Status) (text : List ℕ) → SaysOfPosition Says bytes status text → Says file status text
said-of-position Says bytes file is status text (inl refused) =
    let only = position-read-back file bytes is.text is.lawful in
    absurd (refused.cause (only.no_fault refused.error refused.fault))
said-of-position Says bytes file is status text (inr said) =
    let only = position-read-back file bytes is.text is.lawful in
    subst (λ (f : PositionFile). Says f status text) (only.no_other said.0 said.1.text) said.2

-- a command whose word on each position for which its numbers are enough is an answer answers where it is sure to
pub position-answers : (command : PositionCommand)
    → ((file : PositionFile) → command.IsEnough file → (status : Status) (text : List ℕ) → command.Says file status text
    → command.IsAnswer status)
    → (run : Run) → IsTold (SaysOfPosition command.Says) run → AnswersTold (of_position command) run
position-answers command answer = answers-told (of_position command)
    (λ bytes can status text says. answer can.0 can.2 status text (said-of-position command.Says bytes can.0 can.1 status text says))

-- a status that stands in place of others speaks of no position, nor does that of a refused text
pub search-silent : (number : ℕ) → IsYielded number ⊎ (number ≡ 3) → SpeaksOfPosition number → ⊥
search-silent number other e = grind arith

-- ---- what statuses show

-- Where each thing that is said of a position shows this of it, and so does each status that stands in place of that, then the statuses
-- that speak of a position show it.
module _ (Says : PositionFile → Status → List ℕ → Type 0) (Speaks : ℕ → Type 0)
    (silent : (number : ℕ) → IsYielded number ⊎ (number ≡ 3) → Speaks number → ⊥) (run : Run) (Holds : PositionFile → Type 0)
    (by-said : (file : PositionFile) (status : Status) (text : List ℕ) → run.status ≡ status_number status
    → Takes run.output.before text run.output.after → Says file status text → Holds file)
    (by-yielded : (file : PositionFile) → IsYielded run.status → Holds file) where
  lawful-by : (bytes : List ℕ) (status : Status) (text : List ℕ) → run.status ≡ status_number status → SaysOfPosition Says bytes status text
      → Speaks run.status → (file : PositionFile) × IsPositionAt file bytes
  lawful-by bytes status text ends (inr said) speaks = (said.0, said.1)
  lawful-by bytes status text ends (inl refused) speaks = absurd (silent run.status (inr (ends ∙ ap status_number refused.ends)) speaks)

  by-end : IsWhole (SaysOfPosition Says) run ⊎ IsYielded run.status → IfSome run.input.before (ShowsOfPosition (Speaks run.status) Holds)
  by-end (inl w) = given-told (ShowsOfPosition (Speaks run.status) Holds) run.input.before w.bytes w.given (record {
    lawful = lawful-by w.bytes w.status w.text w.ends w.says;
    says = λ file is. by-said file w.status w.text w.ends w.whole (said-of-position Says w.bytes file is w.status w.text w.says);
  })
  by-end (inr y) = every-told (ShowsOfPosition (Speaks run.status) Holds) run.input.before (λ bytes. record {
    lawful = λ speaks. absurd (silent run.status (inl y) speaks);
    says = λ file is. by-yielded file y;
  })

  pub shows-of-position : IsTold (SaysOfPosition Says) run → IfSome run.input.before (ShowsOfPosition (Speaks run.status) Holds)
  shows-of-position told = by-end (whole-or-yielded (SaysOfPosition Says) run told)

-- what each status of a search says
module _ (cost nodes : ℕ) (is_written is_lacking : Type 0) (run : Run) where
  pub found-searched : run.status ≡ 0 → cost ≤ nodes → is_written → IsSearched cost nodes is_written is_lacking run
  found-searched here enough written = record {
    found = λ e. (enough, written);
    none = λ (e : run.status ≡ 9). absurd (omega (arith, here, e));
    spent = λ (e : run.status ≡ 5). absurd (omega (arith, here, e));
    only = inl (inl here);
  }

  pub none-searched : run.status ≡ 9 → cost ≤ nodes → is_lacking → IsSearched cost nodes is_written is_lacking run
  none-searched here enough lacking = record {
    found = λ (e : run.status ≡ 0). absurd (omega (arith, here, e));
    none = λ e. (enough, lacking);
    spent = λ (e : run.status ≡ 5). absurd (omega (arith, here, e));
    only = inl (inr (inl here));
  }

  pub spent-searched : run.status ≡ 5 → nodes < cost → IsSearched cost nodes is_written is_lacking run
  spent-searched here more = record {
    found = λ (e : run.status ≡ 0). absurd (omega (arith, here, e));
    none = λ (e : run.status ≡ 9). absurd (omega (arith, here, e));
    spent = λ e. more;
    only = inl (inr (inr here));
  }

  pub yielded-searched : IsYielded run.status → IsSearched cost nodes is_written is_lacking run
  yielded-searched y = record {
    found = λ e. absurd (search-silent run.status (inl y) (inl e));
    none = λ e. absurd (search-silent run.status (inl y) (inr (inl e)));
    spent = λ e. absurd (search-silent run.status (inl y) (inr (inr e)));
    only = inr y;
  }
