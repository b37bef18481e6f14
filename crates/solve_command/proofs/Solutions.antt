-- What is said of the position of a text, by the step of `solve` that decides.
use Rattle.std.proofs.Common.{◌≡◌, true, false, ◌↔◌, inl, inr, ℕ, ◌<◌, ◌≤◌, ◌∙◌, List, length}
use Rattle.std.proofs.Common.{arith, Result, Ok, Err, IfOk, Some, None, rules}
use Rattle.std.proofs.lemmas.Bool.{true_from_ne_false}
use Rattle.game_rules.proofs.Common.{Grid}
use Rattle.game_rules.proofs.Games.{WinsUnder-more}
use Rattle.game_rules.specs.declared.RuleKind.{RuleKind}
use Rattle.strategy_graph.specs.declared.Node.{Node}
use Rattle.strategy_compiler.specs.declared.wins.WrittenWin.{WrittenWin}
use Rattle.strategy_compiler.proofs.Common.{IsWrittenWin}
use Rattle.strategy_compiler.proofs.Growing.{win-within}
use Rattle.four_search.specs.declared.fewest.FourTable.{FourTable}
use Rattle.four_search.specs.declared.fewest.FewestWin.{FewestWin}
use Rattle.four_search.specs.FewestWins.{IsFewestWin, IsFoundTable, win_of}
use Rattle.threat_moves.specs.declared.threat_list.Threat.{Threat}
use Rattle.line_proof.specs.Lines.{line_wins, line_tree}
use Rattle.line_proof.specs.declared.proof.LineAnswer.{LineAnswer}
use Rattle.line_proof.specs.declared.proof.LineAnswer.TheVariants.{Proved, Fails}
use Rattle.proof_number.proofs.WinLaws.{wins-more}
use Rattle.position_files.specs.declared.PositionFile.{PositionFile}
use Rattle.command_base.specs.declared.answer.Answer.{Answer}
use Rattle.command_base.specs.declared.status.Status.TheVariants.{Done, NotFound, Spent, Full}
use Rattle.position_files.proofs.Common.{IsTextOfTable}
use Rattle.position_commands.specs.Fours.{IsShortWinText, table_at}
use Rattle.command_base.specs.Texts.{none_line, spent_line, full_line}
use Rattle.solve_command.specs.declared.solve.Searched.TheVariants.{Win, None as NoWin, Spent as OverBudget}
use Rattle.solve_command.proofs.Common.{SolutionSays, IsWonByFours, IsFirstLine, IsLeftOver, IsToldByThreats, MayBeTooGreat}
use Rattle.command_base.specs.Positions.{file_at}
use Rattle.position_commands.proofs.Searches.{four-text, wins-last}

-- a line that is proved wins
pub line-proved : (rule : RuleKind) (line : List Threat) (n : ℕ) (b : Grid) (a : LineAnswer) (win : WrittenWin) → a ≡ Proved win
    → (a ≡ Fails) ↔ (line_wins rule line n b ≡ false) → line_wins rule line n b ≡ true
line-proved rule line n b a win e fails = search (rules, true_from_ne_false)

-- what the first step finds: the table of a win by fours, or that there is none for which the budget is enough
pub win-found : (rule : RuleKind) (limit nodes : ℕ) (b : Grid) (found : FewestWin) (made : FourTable) → IsFewestWin rule limit nodes b found
    → win_of found ≡ Some made → IsFoundTable rule limit nodes b made
win-found rule limit nodes b found made is e = search rules

pub win-missed : (rule : RuleKind) (limit nodes : ℕ) (b : Grid) (found : FewestWin) → IsFewestWin rule limit nodes b found
    → win_of found ≡ None → ¬ IsWonByFours limit nodes (file_at rule b)
win-missed rule limit nodes b found is e won = search rules

-- the text of the table of a win of the first step is what is said
pub first-says : {E : Type 0} (r : Result Answer E) (limit nodes : ℕ) (rule : RuleKind) (b : Grid) (made : FourTable)
    → IsFoundTable rule limit nodes b made → IfOk r (λ a. a.status ≡ Done)
    → IfOk r (λ a. IsTextOfTable (table_at (file_at rule b) made.moves made.table) a.text)
    → IfOk r (λ a. SolutionSays limit nodes (file_at rule b) a.status a.text)
first-says (Err e) limit nodes rule b made is done text = tt
first-says (Ok a) limit nodes rule b made is done text =
    let here = wins-last rule limit b made is.made in
    inl (record {
      found = record { enough = is.fits; win = four-text rule limit b made is.made a.text text; ends = done };
      win = record {
        moves = made.moves;
        table = made.table;
        within = here.written.within;
        accepted = here.written.accepted;
        deep = here.written.deep;
        different = is.made.plan.different;
        reached = is.made.reached;
        written = text;
      };
      few = let few = is.made.few in let within = here.written.within in omega (arith, few, within);
    })

module _ {E : Type 0} (r : Result Answer E) (limit nodes : ℕ) (rule : RuleKind) (p b : Grid) (there : b ≡ p) (compiled : List Node)
    (win : WrittenWin) where
  -- the text of a win that is written has a table that is no longer than the compiler
  written-text : (a : Answer) → IsWrittenWin rule limit p compiled win
      → ((limit : ℕ) → IsWrittenWin rule limit b compiled win → IsShortWinText limit (length compiled) (file_at rule b) a.text)
      → IsShortWinText limit (length compiled) (file_at rule p) a.text
  written-text a is shown =
      let at = rw (← there) at is in
      rw there at (shown limit at)

  -- that of the second step is what is said, where the first has none
  pub line-says : (line : List Threat) → IsWrittenWin rule limit p compiled win → length compiled ≤ line_tree rule line limit p
      → ¬ IsWonByFours limit nodes (file_at rule p) → IsFirstLine limit nodes (file_at rule p) line → line_wins rule line limit p ≡ true
      → IfOk r (λ a. a.status ≡ Done) → IfOk r (λ a. (limit : ℕ) → IsWrittenWin rule limit b compiled win
      → IsShortWinText limit (length compiled) (file_at rule b) a.text)
      → IfOk r (λ a. SolutionSays limit nodes (file_at rule p) a.status a.text)
  line-says line is short later first wins done shown = elim r as (λ (r : Result Answer E). IfOk r (λ a. a.status ≡ Done)
      → IfOk r (λ a. (limit : ℕ) → IsWrittenWin rule limit b compiled win
      → IsShortWinText limit (length compiled) (file_at rule b) a.text)
      → IfOk r (λ a. SolutionSays limit nodes (file_at rule p) a.status a.text)) [
        | Ok a ↦ λ done shown.
            let win_text : IsShortWinText limit (length compiled) (file_at rule p) a.text = written-text a is shown in
            inr (inl (record {
              later = later;
              along = record { line = line; first = first; wins = wins };
              win = win_text.0;
              few = let table = win_text.1 in omega (arith, table, short);
              ends = done;
            }))
        | Err e ↦ λ done shown. tt
      ] done shown

  -- and that of the third, where the first two have none
  pub threats-says : IsToldByThreats rule limit nodes p (Win compiled win) → IsLeftOver limit nodes (file_at rule p)
      → IfOk r (λ a. a.status ≡ Done) → IfOk r (λ a. (limit : ℕ) → IsWrittenWin rule limit b compiled win
      → IsShortWinText limit (length compiled) (file_at rule b) a.text)
      → IfOk r (λ a. SolutionSays limit nodes (file_at rule p) a.status a.text)
  threats-says is left done shown = elim r as (λ (r : Result Answer E). IfOk r (λ a. a.status ≡ Done)
      → IfOk r (λ a. (limit : ℕ) → IsWrittenWin rule limit b compiled win
      → IsShortWinText limit (length compiled) (file_at rule b) a.text)
      → IfOk r (λ a. SolutionSays limit nodes (file_at rule p) a.status a.text)) [
        | Ok a ↦ λ done shown.
            let win_text : IsShortWinText limit (length compiled) (file_at rule p) a.text = written-text a is.0.written shown in
            inr (inr (inl (record {
              left = left;
              by_threats = is.0.by_threats;
              win = win_text.0;
              few = let table = win_text.1 in let short = is.1 in omega (arith, table, short);
              ends = done;
            })))
        | Err e ↦ λ done shown. tt
      ] done shown

module _ (a : Answer) (limit nodes : ℕ) (file : PositionFile) where
  -- what is said where the last step finds none
  pub unwon-says : IsLeftOver limit nodes file → IsToldByThreats file.kind limit nodes file.board NoWin → a.status ≡ NotFound
      → a.text ≡ none_line → SolutionSays limit nodes file a.status a.text
  unwon-says left told ends line =
      inr (inr (inr (inl (record { left = left; none = told.0; denial = told.1; looked = told.2; ends = ends; line = line }))))

  -- where the budget is not enough
  pub undecided-says : IsLeftOver limit nodes file → IsToldByThreats file.kind limit nodes file.board OverBudget → a.status ≡ Spent
      → a.text ≡ spent_line → SolutionSays limit nodes file a.status a.text
  undecided-says left told ends line =
      inr (inr (inr (inr (inl (record { left = left; more = told.0; ran_out = told.1; ends = ends; line = line })))))

  -- and where a table has no room
  pub full-says : ¬ IsWonByFours limit nodes file → MayBeTooGreat limit nodes file → a.status ≡ Full → a.text ≡ full_line
      → SolutionSays limit nodes file a.status a.text
  full-says later great ends line = inr (inr (inr (inr (inr (record { later = later; great = great; ends = ends; line = line })))))

-- a win that is found within fewer moves is one within more, and no more nodes are written
pub longer-win : (rule : RuleKind) (n m nodes : ℕ) (b : Grid) (t : List Node) (win : WrittenWin) → n ≤ m
    → IsToldByThreats rule n nodes b (Win t win) → IsToldByThreats rule m nodes b (Win t win)
longer-win rule n m nodes b t win few is = search (rules, win-within, WinsUnder-more, wins-more)
