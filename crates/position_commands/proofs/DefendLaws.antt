-- The command `defend`: its words, its answers, and what its statuses show.
use Rattle.std.proofs.Common.{rules, ◌≡◌, inl, inr, ap, ◌∙◌, ◌⊎◌, ℕ, ◌*◌, ◌≤◌, List, [], ◌∷◌, length}
use Rattle.std.proofs.Common.{Some, None, arith, IfOk, IfSome, Result, sum_by}
use Rattle.std.proofs.lemmas.List.Sums.{sum_by-cons}
use Rattle.position_commands.proofs.Common.{Grid, IsBoard, RuleKind, Node, IsTextOfTable, defences_of, most_nodes, PositionFile, Takes}
use Rattle.position_commands.proofs.Common.{Answer, Status, Done, status_number, Run, IsTold, SaysOfPosition, ShowsOfPosition, DefenceSays}
use Rattle.position_commands.proofs.Common.{IsEnoughAfterEach, IsJudgedDefence, IsLostText, ListsDefences, SpeaksOfDefence, WritesStart}
use Rattle.position_commands.proofs.Common.{defend_command, first_spent_at, plans_at, LostTextIsOne}
use Rattle.game_rules.proofs.Common.{points_of}
use Rattle.game_rules.specs.declared.Point.{Point}
use Rattle.game_rules.proofs.Places.{points_few}
use Rattle.strategy_graph.specs.declared.Reply.{Reply}
use Rattle.strategy_graph.specs.declared.roots.Root.TheVariants.{Defend}
use Rattle.strategy_graph.proofs.Common.{Answers, start_depth}
use Rattle.strategy_compiler.proofs.Common.{IsMadeOfAnswers, IsStartOfBranches, AnswersBranches, Branches}
use Rattle.strategy_compiler.proofs.Unique.{one-start}
use Rattle.defence_finder.specs.Defences.{first_spent, IsShortAfter}
use Rattle.defence_finder.specs.Answers.{AreBeaten, IsLostStart, nodes_after}
use Rattle.defence_finder.proofs.Telling.{spent-told}
use Rattle.defence_finder.proofs.Losing.{beaten-replies-planned, beaten-replies-win, no_defence-loses}
use Rattle.command_base.specs.Told.{IsYielded}
use Rattle.command_base.specs.Positions.{file_at}
use Rattle.command_base.proofs.PositionLaws.{shows-of-position}

-- ---- the budget

module _ (limit nodes : ℕ) (file : PositionFile) where
  pub enough-at : first_spent_at limit nodes file ≡ None → IsEnoughAfterEach limit nodes file
  enough-at e = rw e at (spent-told file.kind limit nodes file.board)

  pub short-at : (q : Point) → first_spent_at limit nodes file ≡ Some q → IsShortAfter file.kind limit nodes file.board q
  short-at q e = rw e at (spent-told file.kind limit nodes file.board)

-- what is said of a position where the budget is enough after each move is an answer
pub defend-answers : (limit nodes : ℕ) (file : PositionFile) → (defend_command limit nodes).IsEnough file → (status : Status)
    (text : List ℕ) → DefenceSays limit nodes file status text → (defend_command limit nodes).IsAnswer status
defend-answers limit nodes file enough status text (inl list) = list.ends
defend-answers limit nodes file enough status text (inr (inl lost)) = lost.ends
defend-answers limit nodes file enough status text (inr (inr spent)) =
    let short = short-at limit nodes file spent.at spent.first in
    let few = enough spent.at short.0 in
    let more = short.1 in
    absurd (omega (arith, few, more))

-- ---- what is said of the position at a board under a rule

-- the start that is made of the answers to the beaten moves, and its text
module _ (limit : ℕ) (kind : RuleKind) (b : Grid) (t : List Node) (bad given : List Reply) (same : given ≡ bad)
    (none : defences_of kind limit b ≡ []) (beaten : AreBeaten kind limit b t bad) (u : List Node) (a : Answers)
    (made : IsMadeOfAnswers t given u a) where
  pub lost-made : IsLostStart kind limit b u a
  lost-made = beaten-replies-win kind limit b t bad u a none beaten (rw same at made)

  pub lost-text : ((bs : Branches) → AnswersBranches t given bs → IsStartOfBranches bs u a) → length u ≤ most_nodes limit b → (moves : ℕ)
      → moves ≡ start_depth u a → (text : List ℕ)
      → IsTextOfTable (record { kind = kind; board = b; table = u; root = Defend a; moves = moves }) text
      → IsLostText limit (file_at kind b) text
  lost-text of_branches few moves deep text written = record {
    table = u;
    start = a;
    plans = of_branches (plans_at limit (file_at kind b))
        (rw same (beaten-replies-planned kind limit b t bad beaten));
    accepted = lost-made.accepted;
    within = lost-made.within;
    different = made.different;
    reached = made.reached;
    few = few;
    written = rw deep at written;
  }

-- there is one such text
pub lost-text-one : LostTextIsOne
lost-text-one limit file text other this that = search (rules, one-start)

-- where no move holds, the text of that start is what is said
pub lost-says : {E : Type 0} (limit nodes : ℕ) (rule : RuleKind) (p : Grid) (r : Result Answer E) (b : Grid) (t : List Node)
    (bad : List Reply) → b ≡ p → defences_of rule limit p ≡ [] → None ≡ first_spent rule limit nodes p → AreBeaten rule limit p t bad
    → length t ≤ most_nodes limit p → IfOk r (λ a. a.status ≡ Done)
    → IfOk r (λ a. (limit : ℕ) → defences_of rule limit b ≡ [] → AreBeaten rule limit b t bad → length t ≤ most_nodes limit b
    → IsLostText limit (file_at rule b) a.text) → IfOk r (λ a. DefenceSays limit nodes (file_at rule p) a.status a.text)
lost-says limit nodes rule p r b t bad there none enough beaten short done text = search (rules, file_at)

-- ---- a new compiler has room

one-few : (n : ℕ) (b : Grid) (q : Point) → n ≤ 60 → nodes_after n b q ≤ 120
one-few n b q few = search rules

all-few : (n : ℕ) (b : Grid) → n ≤ 60 → (ps : List Point) → sum_by (nodes_after n b) ps ≤ 120 * length ps
all-few n b few [] = omega arith
all-few n b few (q ∷ ps) = let split = sum_by-cons (nodes_after n b) q ps in omega (arith, split, one-few n b q few, all-few n b few ps)

pub few-nodes : (n : ℕ) (b : Grid) → n ≤ 60 → IsBoard b → most_nodes n b ≤ 122880
few-nodes n b few board = omega (arith, all-few n b few (points_of b), points_few b board)

-- ---- the statuses

-- a status that stands in place of others speaks of no position, nor does that of a refused text
silent : (number : ℕ) → IsYielded number ⊎ (number ≡ 3) → SpeaksOfDefence number → ⊥
silent number other e = grind arith

module _ (limit nodes : ℕ) (run : Run) where
  done-judged : (file : PositionFile) → run.status ≡ 0 → IsEnoughAfterEach limit nodes file
      → ListsDefences limit file run.output ⊎ WritesStart limit file run.output → IsJudgedDefence limit nodes file run
  done-judged file here enough said = search rules

  judged-by : (file : PositionFile) (status : Status) (text : List ℕ) → run.status ≡ status_number status
      → Takes run.output.before text run.output.after → DefenceSays limit nodes file status text → IsJudgedDefence limit nodes file run
  judged-by file status text ends whole (inl list) =
      done-judged file (ends ∙ ap status_number list.ends) (enough-at limit nodes file list.enough)
      (inl (record { some = list.some; whole = rw list.list at whole }))
  judged-by file status text ends whole (inr (inl lost)) =
      done-judged file (ends ∙ ap status_number lost.ends) (enough-at limit nodes file lost.enough)
      (inr (record {
        none = lost.none;
        text = text;
        lost = lost.lost;
        whole = whole;
        loses = no_defence-loses file.kind limit file.board lost.none;
      }))
  judged-by file status text ends whole (inr (inr spent)) =
      let here = ends ∙ ap status_number spent.ends in
      record {
        found = λ (e : run.status ≡ 0). absurd (omega (arith, here, e));
        spent = λ e. (spent.at, short-at limit nodes file spent.at spent.first);
        only = inl (inr here);
      }

  yielded-judged : (file : PositionFile) → IsYielded run.status → IsJudgedDefence limit nodes file run
  yielded-judged file y = record {
    found = λ e. absurd (silent run.status (inl y) (inl e));
    spent = λ e. absurd (silent run.status (inl y) (inr e));
    only = inr y;
  }

  -- what `defend` did in a run
  pub defend-shown : IsTold (SaysOfPosition (DefenceSays limit nodes)) run
      → IfSome run.input.before (ShowsOfPosition (SpeaksOfDefence run.status) (λ file. IsJudgedDefence limit nodes file run))
  defend-shown =
      shows-of-position (DefenceSays limit nodes) SpeaksOfDefence silent run (λ file. IsJudgedDefence limit nodes file run) judged-by
      yielded-judged
