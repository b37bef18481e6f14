-- What a walk from a root shows, and the verdict that comes of it.
use Rattle.std.proofs.Common.{◌≡◌, ℕ, ◌-◌, ◌<◌, List, reverse, rules, Result, Err}
use Rattle.strategy_checker.proofs.Common.{Grid, Point, RuleKind, Node, Walk, Stop, IsChecked, IsEndOf, IsTold, IsVerdictOf, AcceptsExactly}
use Rattle.strategy_checker.proofs.Common.{RefusesRightly, SpendsRightly, IfAccepted, IfRefused, Stopped, Walked}
use Rattle.strategy_graph.proofs.Common.{AcceptedRoot, LeadsRoot, RootWins, root_arrivals, root_depth}
use Rattle.strategy_graph.specs.declared.roots.Root.{Root}
use Rattle.strategy_graph.proofs.Starts.{accepted-root-wins, leads-refutes-root}
use Rattle.strategy_checker.specs.declared.Verdict.{Verdict}
use Rattle.strategy_checker.specs.declared.error.HeldError.{HeldError}

-- what a verdict says of a root
pub record IsRight (rule : RuleKind) (t : List Node) (root : Root) (b : Grid) (work : ℕ) (v : Verdict) : Type 0 where
  pub accepts : AcceptsExactly (AcceptedRoot rule t root b) (root_arrivals rule t root b) work v
  pub moves : IfAccepted (λ m count. m ≡ root_depth t root) v
  pub arrivals : IfAccepted (λ m count. count ≡ root_arrivals rule t root b) v
  pub wins : IfAccepted (λ m count. RootWins rule root m b) v
  pub refuses : RefusesRightly (AcceptedRoot rule t root b) (root_arrivals rule t root b) work v
  pub leads : IfRefused (λ line why. LeadsRoot rule t root b line why) v
  pub spends : SpendsRightly (AcceptedRoot rule t root b) (root_arrivals rule t root b) work v

module _ (rule : RuleKind) (t : List Node) (root : Root) (b : Grid) (work : ℕ) where
  -- why the walk stopped is why the root is not accepted
  told-right : (start : ℕ) (stop : Stop) (line : List Point) (error : HeldError) → start ≡ work
      → Stopped (λ why. LeadsRoot rule t root b line why) (start < root_arrivals rule t root b) stop → IsTold stop line error
      → IsChecked rule t root b work (Err error)
  told-right start stop line error all stopped is = search (rules, leads-refutes-root)

  -- what comes of a walk from the root is what its check answers
  pub end-right : (old new : Walk) (walked : Result (Unit {0}) Stop) (r : Result ℕ HeldError) → old.left ≡ work
      → Walked rule t (AcceptedRoot rule t root b) (root_arrivals rule t root b) (LeadsRoot rule t root b) old new walked
      → IsEndOf walked (work - new.left) (reverse new.line) r → IsChecked rule t root b work r
  end-right old new walked r all did is = search (rules, accepted-root-wins, told-right)

  -- a verdict by what the check answers says so
  pub verdict-right : (moves : ℕ) (r : Result ℕ HeldError) (v : Verdict) → moves ≡ root_depth t root → IsChecked rule t root b work r
      → IsVerdictOf moves r v → IsRight rule t root b work v
  verdict-right moves r v deep checked is = search rules
