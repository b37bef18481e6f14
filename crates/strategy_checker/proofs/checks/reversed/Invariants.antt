use Rattle.std.proofs.Common.{◌≡◌, map}
use Rattle.strategy_checker.proofs.checks.reversed.Given as goal

-- the points that were passed, in the order in which they came
abbrev pub invariant-loop-p : goal.invariant-loop-p
invariant-loop-p l = l.others ≡ map (λ p. p.now) l.yielded
