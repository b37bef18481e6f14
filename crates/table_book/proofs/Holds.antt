-- Entries that are checked one after another, held or counted.
use Rattle.std.proofs.Common.{◌≡◌, ℕ, ◌+◌, ◌*◌, ◌≤◌, ◌<◌, sym, ap, subst, ◌∙◌, arith, List, ◌∷◌, ◌++◌, length, map, take, sum_by, Some}
use Rattle.std.proofs.Common.{slice_get, rules}
use Rattle.std.specs.List.{AllByRecursion}
use Rattle.std.proofs.lemmas.List.{length-map}
use Rattle.std.proofs.lemmas.Option.{slice_get_within}
use Rattle.std.proofs.Math.Seq.{take-append_seam}
use Rattle.strategy_graph.specs.Roots.{AcceptedRoot, LeadsRoot}
use Rattle.table_book.proofs.Common.{Node, Entry, IsAccepted, IsHoldFault, at_entry, entry_arrivals, held_entry}
use Rattle.strategy_checker.specs.HeldRoots.{HeldTable}
use Rattle.strategy_checker.specs.HeldErrors.{IfRootRefused, IfRootSpent}
use Rattle.strategy_checker.specs.declared.error.HeldError.{HeldError}
use Rattle.table_book.specs.declared.TheConstants.{MAX_BOOK_WORK}
use Rattle.table_book.proofs.Lists.{seam}
use Rattle.table_book.proofs.Soundness.{earliest_at}

-- the first i entries are accepted, and their arrivals summed
pub record AreSummed (t : List Node) (es : List Entry) (work i number sum : ℕ) : Type 0 where
  pub counted : number ≡ i
  pub summed : sum ≡ sum_by (entry_arrivals t) (take i es)
  pub few : sum ≤ MAX_BOOK_WORK * i
  pub accepted : AllByRecursion (IsAccepted t work) (take i es)

-- the error of an entry, said of all of them
pub hold_fault_at : (t : List Node) (es : List Entry) (work i number : ℕ) (e : Entry) → number ≡ i + 1 → slice_get es i ≡ Some e
    → AllByRecursion (IsAccepted t work) (take i es) → (error : HeldError)
    → IfRootRefused (λ line why. ¬ AcceptedRoot e.kind t e.root e.board) error
    → IfRootRefused (λ line why. LeadsRoot e.kind t e.root e.board line why) error → IfRootSpent (work < entry_arrivals t e) error
    → IsHoldFault t es work (at_entry number error)
hold_fault_at t es work i number e next at before x9 refused leads spent = search (rules, earliest_at)

-- the entries that have passed are held with the table, and the others are left
pub record AreHeld (t : List Node) (es : List Entry) (work : ℕ) (h : HeldTable) (passed left : List Entry) : Type 0 where
  pub table : h.table ≡ t
  pub roots : h.roots ≡ map held_entry passed
  pub parts : es ≡ passed ++ left
  pub accepted : AllByRecursion (IsAccepted t work) passed

-- what is known of the next entry: it is one of them, and as many roots are held as there are entries before it
pub record IsNextEntry (es : List Entry) (passed : List Entry) (e : Entry) : Type 0 where
  pub at : slice_get es (length passed) ≡ Some e
  pub before : take (length passed) es ≡ passed
  pub fewer : length passed < length es

pub next_entry : (t : List Node) (es : List Entry) (work : ℕ) (h : HeldTable) (passed left : List Entry) (e : Entry) (rest : List Entry)
    → AreHeld t es work h passed left → left ≡ e ∷ rest → IsNextEntry es passed e
next_entry t es work h passed left e rest so_far next =
    let parts : es ≡ passed ++ e ∷ rest = so_far.parts ∙ ap (λ (l : List Entry). passed ++ l) next in
    let at : slice_get es (length passed) ≡ Some e = ap (λ (l : List Entry). slice_get l (length passed)) parts ∙ seam passed e rest in
    record {
      at = at;
      before = ap (take (length passed)) parts ∙ take-append_seam passed (e ∷ rest);
      fewer = slice_get_within es (length passed) e at;
    }

-- the error of the next entry, said of all of them
pub hold_fault_of : (t : List Node) (es : List Entry) (work : ℕ) (h : HeldTable) (passed left : List Entry) (e : Entry) (rest : List Entry)
    → AreHeld t es work h passed left → left ≡ e ∷ rest → (number : ℕ) → number ≡ length h.roots + 1 → (error : HeldError)
    → IfRootRefused (λ line why. ¬ AcceptedRoot e.kind h.table e.root e.board) error
    → IfRootRefused (λ line why. LeadsRoot e.kind h.table e.root e.board line why) error
    → IfRootSpent (work < entry_arrivals h.table e) error → IsHoldFault t es work (at_entry number error)
hold_fault_of t es work h passed left e rest so_far next number counted error refused leads spent =
    let here = next_entry t es work h passed left e rest so_far next in
    let roots : length h.roots ≡ length passed = ap length so_far.roots ∙ length-map passed held_entry in
    let place : number ≡ length passed + 1 = omega (arith, counted, roots) in
    hold_fault_at t es work (length passed) number e place here.at
    (subst (AllByRecursion (IsAccepted t work)) (sym here.before) so_far.accepted) error
    (subst (λ (k : List Node). IfRootRefused (λ line why. ¬ AcceptedRoot e.kind k e.root e.board) error) so_far.table refused)
    (subst (λ (k : List Node). IfRootRefused (λ line why. LeadsRoot e.kind k e.root e.board line why) error) so_far.table leads)
    (subst (λ (k : List Node). IfRootSpent (work < entry_arrivals k e) error) so_far.table spent)
