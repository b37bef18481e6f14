-- The command `check`: its words, its answers, and what its status 0 shows.
use Rattle.std.proofs.Common.{◌≡◌, inl, inr, sym, ap, subst, ◌∙◌, ◌⊎◌, ℕ, ◌≤◌, List, arith, IfSome}
use Rattle.strategy_graph.proofs.Common.{root_arrivals}
use Rattle.table_commands.proofs.Common.{TableFile, Takes, Status, Done, RefusedText, RefusedTable, status_number, Run, IsTold}
use Rattle.table_commands.proofs.Common.{accepted_line, IsAcceptedTable, TableSays, CheckSays, check_command, IsAcceptedInput, IsTableAt}
use Rattle.position_files.proofs.ReadBack.{table-read-back}
use Rattle.command_base.specs.declared.status.Status.TheVariants.{Spent}
use Rattle.command_base.proofs.ToldLaws.{done-told, other-status}

-- what is said of a text for which the work is enough is an answer
pub check-answers : (work : ℕ) (bytes : List ℕ) → (check_command work).IsAnswerable bytes → (status : Status) (text : List ℕ)
    → CheckSays work bytes status text → (check_command work).IsAnswer status
check-answers work bytes can status text (inl refused) =
    let only = table-read-back can.0 bytes can.1.text can.1.lawful can.1.moves in
    absurd (refused.cause (only.no_fault refused.error refused.fault))
check-answers work bytes can status text (inr said) = by-verdict said.2 where
  by-verdict : TableSays work said.0 status text → (status ≡ Done) ⊎ (status ≡ RefusedTable)
  by-verdict (inl accepted) = inl accepted.ends
  by-verdict (inr (inl refused)) = inr refused.ends
  by-verdict (inr (inr spent)) =
      let only = table-read-back can.0 bytes can.1.text can.1.lawful can.1.moves in
      let same : said.0 ≡ can.0 = only.no_other said.0 said.1.text in
      let few : root_arrivals said.0.kind said.0.table said.0.root said.0.board ≤ work =
      subst (λ (f : TableFile). root_arrivals f.kind f.table f.root f.board ≤ work) (sym same) can.2 in
      let more = spent.more in
      absurd (omega (arith, few, more))

-- ---- status 0

module _ (work : ℕ) (run : Run) (zero : run.status ≡ 0) where
  accepted-input : (bytes : List ℕ) (text : List ℕ) (file : TableFile) → IsTableAt file bytes → (status : Status)
      → IsAcceptedTable work file status text → Takes run.output.before text run.output.after → IsAcceptedInput work bytes run.output
  accepted-input bytes text file at status a whole = record {
    file = file;
    text = at.text;
    lawful = at.lawful;
    accepted = a.accepted;
    within = a.within;
    depth = at.moves;
    wins = rw at.moves a.wins;
    line = rw (a.line ∙ ap (λ (n : ℕ). accepted_line n (root_arrivals file.kind file.table file.root file.board)) (sym at.moves)) at whole;
  }

  by-verdict : (bytes : List ℕ) (status : Status) (text : List ℕ) (file : TableFile) → IsTableAt file bytes
      → run.status ≡ status_number status → Takes run.output.before text run.output.after → TableSays work file status text
      → IsAcceptedInput work bytes run.output
  by-verdict bytes status text file at ends whole (inl accepted) = accepted-input bytes text file at status accepted whole
  by-verdict bytes status text file at ends whole (inr (inl refused)) =
      absurd (let no = other-status run zero status RefusedTable ends refused.ends in cc)
  by-verdict bytes status text file at ends whole (inr (inr spent)) =
      absurd (let no = other-status run zero status Spent ends spent.ends in cc)

  by-saying : (bytes : List ℕ) (status : Status) (text : List ℕ) → run.status ≡ status_number status
      → Takes run.output.before text run.output.after → CheckSays work bytes status text → IsAcceptedInput work bytes run.output
  by-saying bytes status text ends whole (inl refused) = absurd (let no = other-status run zero status RefusedText ends refused.ends in cc)
  by-saying bytes status text ends whole (inr said) = by-verdict bytes status text said.0 said.1 ends whole said.2

  -- what `check` did in a run that ends with 0
  pub check-won : IsTold (CheckSays work) run → IfSome run.input.before (λ bytes. IsAcceptedInput work bytes run.output)
  check-won = done-told (CheckSays work) (λ bytes. IsAcceptedInput work bytes run.output) run zero by-saying
