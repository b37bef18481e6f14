-- What a check of a root answers: its arrivals, or why it is not accepted.
use Rattle.std.specs.Prelude.{◌≡◌, ℕ, ◌<◌, ◌≤◌, List, Result, Ok, Err, IfOk, IfErr, OnOk}
use Rattle.game_rules.specs.Grid.{Grid}
use Rattle.game_rules.specs.declared.Point.{Point}
use Rattle.game_rules.specs.declared.RuleKind.{RuleKind}
use Rattle.strategy_graph.specs.Roots.{AcceptedRoot, LeadsRoot, RootWins, root_arrivals, root_depth}
use Rattle.strategy_graph.specs.declared.Node.{Node}
use Rattle.strategy_graph.specs.declared.roots.Root.{Root}
use Rattle.strategy_checker.specs.HeldErrors.{IfRootRefused, IfRootSpent}
use Rattle.strategy_checker.specs.declared.error.HeldError.{HeldError}
use Rattle.strategy_checker.specs.declared.error.HeldError.TheVariants.{Refused, Spent, Memory}
use Rattle.strategy_checker.specs.declared.walk.Stop.{Stop}
use Rattle.strategy_checker.specs.declared.walk.Stop.TheVariants.{Fault, Spent as StopSpent}

-- what a check of a root answers: its arrivals, where it is accepted with at most so much work, or why it is not
pub record IsChecked (rule : RuleKind) (t : List Node) (root : Root) (b : Grid) (work : ℕ) (r : Result ℕ HeldError) : Type 0 where
  pub accepted : OnOk r (AcceptedRoot rule t root b)
  pub wins : OnOk r (RootWins rule root (root_depth t root) b)
  pub arrivals : IfOk r (λ n. n ≡ root_arrivals rule t root b)
  pub within : OnOk r (root_arrivals rule t root b ≤ work)
  pub refused : IfErr r (IfRootRefused (λ line why. ¬ AcceptedRoot rule t root b))
  pub leads : IfErr r (IfRootRefused (λ line why. LeadsRoot rule t root b line why))
  pub spent : IfErr r (IfRootSpent (work < root_arrivals rule t root b))

-- the error tells why a walk stopped, where line leads to the fault; want of memory tells nothing
abbrev pub IsTold : Stop → List Point → HeldError → Type 0
IsTold stop line (Refused told why) = (stop ≡ Fault why) × (told ≡ line)
IsTold stop line Spent = stop ≡ StopSpent
IsTold stop line Memory = Unit {0}

-- what comes of a walk: the arrivals that it took, or why it stopped
abbrev pub IsEndOf : Result (Unit {0}) Stop → ℕ → List Point → Result ℕ HeldError → Type 0
IsEndOf (Ok done) n line r = r ≡ Ok n
IsEndOf (Err stop) n line (Ok k) = ⊥
IsEndOf (Err stop) n line (Err error) = IsTold stop line error
