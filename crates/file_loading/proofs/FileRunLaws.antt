-- Commands that are told a position once the tables of many files are accepted: their answers, and what their statuses 0 and 9 show.
use Rattle.std.proofs.Common.{◌≡◌, ◌⊎◌, inl, inr, sym, subst, ℕ, List, Option, Some, IfSome, arith}
use Rattle.position_files.specs.declared.PositionFile.{PositionFile}
use Rattle.file_loading.proofs.Common.{TableFile, Files, Status, Done, RefusedText, RefusedTable, ShelfFault, Spent, TooLong, status_number}
use Rattle.file_loading.proofs.Common.{Change, Run, IsDelivered, AreTableFiles, IsRefusedTable, IsSpentWork, IsUnheld, IsUnhinderedShelf}
use Rattle.file_loading.proofs.Common.{TableFileSays}
use Rattle.renju_io.specs.Told.{Takes}
use Rattle.command_base.specs.declared.status.Status.TheVariants.{NotFound}
use Rattle.command_base.specs.Runs.{IsUnbegun}
use Rattle.command_base.specs.Told.{AnswersTold, EndsTold, IsYielded}
use Rattle.command_base.specs.Positions.{IsPositionAt, PositionCommand, SaysOfPosition, of_position}
use Rattle.command_base.proofs.ToldLaws.{IsWhole, answers-by, by-end, given-told}
use Rattle.command_base.proofs.PositionLaws.{said-of-position}
use Rattle.file_loading.specs.RunsByFiles.{IsRunByFiles, SaysByFiles, ShowsByFiles, TellsUnfit}
use Rattle.file_loading.proofs.ManyFileLaws.{fit-not_refused, same-files}

-- ---- answers

-- where each file fits, such a command answers as one that is told a position
module _ (command : List TableFile → PositionCommand)
    (answers : (files : List TableFile) (file : PositionFile) (status : Status) (text : List ℕ) → (command files).Says file status text
    → (command files).IsAnswer status) (work : ℕ) (names : List (List ℕ)) (run : Run) (files : List TableFile)
    (free : IsUnhinderedShelf (λ shelf. AreTableFiles work (Some shelf) names files) run) where
  answers-end : SaysByFiles (λ fs. (command fs).Says) work names run ⊎ TellsUnfit work names run
      ⊎ IsUnbegun run.input run.output run.status → AnswersTold (of_position (command files)) run
  answers-end (inl by) bytes un =
      let same = same-files work free.files names files by.files free.fit
      (subst (λ (shelf : Option Files). AreTableFiles work shelf names by.files) free.told by.accepted) in
      answers-by (of_position (command files)) (λ input can status text says.
      answers files can.0 status text (said-of-position (command files).Says input can.0 can.1 status text says)) run bytes un
      (subst (λ (fs : List TableFile). EndsTold (SaysOfPosition (command fs).Says) run.input run.output run.status) same by.ends)
  answers-end (inr (inl tells)) bytes un =
      absurd (free.shelf_sound (fit-not_refused work names run free.files free.told files free.fit tells.status tells.text tells.why))
  answers-end (inr (inr unbegun)) bytes un = inr (record { ends = unbegun.ends; silent = unbegun.silent })

  pub files-answer : IsRunByFiles (λ fs. (command fs).Says) work names run → AnswersTold (of_position (command files)) run
  files-answer is = answers-end is.ends

-- ---- what is shown

-- the number is that of something that is told, or of a lack that is
abbrev pub Speaks : ℕ → Type 0
Speaks n = (n ≡ status_number Done) ⊎ (n ≡ status_number NotFound)

silent-by : (status told : Status) → status ≡ told → (Speaks (status_number told) → ⊥) → Speaks (status_number status) → ⊥
silent-by status told is silent speaks = silent (subst (λ (s : Status). Speaks (status_number s)) is speaks)

-- what is told of a file that is not accepted is neither
unfit-silent : (work : ℕ) (bytes : List ℕ) (status : Status) (text : List ℕ) → TableFileSays work bytes status text
    → Speaks (status_number status) → ⊥
unfit-silent work bytes status text (inl refused) = silent-by status RefusedText refused.ends (λ s. grind arith)
unfit-silent work bytes status text (inr said) = by-verdict said.2 where
  by-verdict : IsRefusedTable said.0 status text ⊎ IsSpentWork work said.0 status text → Speaks (status_number status) → ⊥
  by-verdict (inl refused) = silent-by status RefusedTable refused.ends (λ s. grind arith)
  by-verdict (inr spent) = silent-by status Spent spent.ends (λ s. grind arith)

unheld-silent : (work : ℕ) (shelf : Change (Option Files)) (name : List ℕ) (status : Status) (text : List ℕ)
    → IsUnheld (TableFileSays work) shelf name status text → Speaks (status_number status) → ⊥
unheld-silent work shelf name status text (inl refused) = unfit-silent work refused.bytes status text refused.says
unheld-silent work shelf name status text (inr (inl long)) = silent-by status TooLong long.ends (λ s. grind arith)
unheld-silent work shelf name status text (inr (inr fault)) = silent-by status ShelfFault fault.ends (λ s. grind arith)

delivered-silent : (status : Status) (text : List ℕ) (output : Change (Option (List ℕ))) (number : ℕ)
    → (Speaks (status_number status) → ⊥) → IsDelivered status text output number → Speaks number → ⊥
delivered-silent status text output number silent (inl whole) = subst (λ (n : ℕ). Speaks n → ⊥) (sym whole.0) silent
delivered-silent status text output number silent (inr failed) = subst (λ (n : ℕ). Speaks n → ⊥) (sym failed.0) (λ s. grind arith)

-- nor is a status that stands in place of others
yields-silent : (n : ℕ) → IsYielded n → Speaks n → ⊥
yields-silent n yielded speaks = grind arith

-- what is said with such a status
abbrev pub SaidSo : (List TableFile → PositionFile → Status → List ℕ → Type 0) → ℕ → List TableFile → PositionFile → List ℕ → Type 0
SaidSo Says number files file text = (status : Status) × (number ≡ status_number status) × Says files file status text

-- a run that ends with such a status shows what is said by all files, which are accepted
module _ (Says : List TableFile → PositionFile → Status → List ℕ → Type 0) (work : ℕ) (names : List (List ℕ)) (run : Run)
    (shelf : Files) (told : run.shelf.before ≡ Some shelf) (input : List ℕ) (given : run.input.before ≡ Some input)
    (speaks : Speaks run.status) where
  abbrev Shows : List ℕ → Type 0
  Shows bytes = ShowsByFiles (SaidSo Says run.status) work names shelf bytes run

  by-says : (by : SaysByFiles Says work names run) (bytes : List ℕ) (status : Status) (text : List ℕ) → run.status ≡ status_number status
      → Takes run.output.before text run.output.after → SaysOfPosition (Says by.files) bytes status text → Shows bytes
  by-says by bytes status text ends whole (inl refused) =
      absurd (silent-by status RefusedText refused.ends (λ s. grind arith) (subst Speaks ends speaks))
  by-says by bytes status text ends whole (inr said) = record {
    files = by.files;
    accepted = subst (λ (o : Option Files). AreTableFiles work o names by.files) told by.accepted;
    position = said.0;
    at = said.1;
    text = text;
    whole = whole;
    holds = (status, ends, said.2);
  }

  shown-by : SaysByFiles Says work names run ⊎ TellsUnfit work names run ⊎ IsUnbegun run.input run.output run.status → Shows input
  shown-by (inl by) = by-ends (by-end (SaysOfPosition (Says by.files)) run by.ends) where
    by-ends : IsWhole (SaysOfPosition (Says by.files)) run ⊎ IsYielded run.status → Shows input
    by-ends (inl w) = subst (λ (o : Option (List ℕ)). IfSome o Shows) given
        (given-told Shows run.input.before w.bytes w.given (by-says by w.bytes w.status w.text w.ends w.whole w.says))
    by-ends (inr yielded) = absurd (yields-silent run.status yielded speaks)
  shown-by (inr (inl tells)) = absurd (delivered-silent tells.status tells.text run.output run.status
      (unheld-silent work run.shelf tells.why.stop.name tells.status tells.why.line tells.why.why) tells.delivered speaks)
  shown-by (inr (inr unbegun)) = absurd (subst (λ (n : ℕ). Speaks n → ⊥) (sym unbegun.ends) (λ s. grind arith) speaks)

  pub files-shown : IsRunByFiles Says work names run → Shows input
  files-shown is = shown-by is.ends

-- a fact that follows, of what is shown
pub shows-then : (Holds Others : List TableFile → PositionFile → List ℕ → Type 0) (work : ℕ) (names : List (List ℕ)) (shelf : Files)
    (input : List ℕ) (run : Run)
    → ((files : List TableFile) (file : PositionFile) (text : List ℕ) → AreTableFiles work (Some shelf) names files
    → IsPositionAt file input → Holds files file text → Others files file text)
    → ShowsByFiles Holds work names shelf input run → ShowsByFiles Others work names shelf input run
shows-then Holds Others work names shelf input run other h = record {
  files = h.files;
  accepted = h.accepted;
  position = h.position;
  at = h.at;
  text = h.text;
  whole = h.whole;
  holds = other h.files h.position h.text h.accepted h.at h.holds;
}
