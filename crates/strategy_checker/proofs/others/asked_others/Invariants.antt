use Rattle.std.proofs.Common.{◌≡◌, ◌+◌, ◌&&◌, not, count_by}
use Rattle.strategy_checker.proofs.Common.{points_of, outcome, goes_on, is_apart}
use Rattle.strategy_checker.proofs.others.asked_others.Given as goal

-- those that are counted, and those among the points left, are all
abbrev pub invariant-loop-q : goal.invariant-loop-q
invariant-loop-q g l = record {
  same : l.position ≡ l.fn.position;
  counted : l.count + count_by (λ q. goes_on (outcome g.R.Rule.KIND l.fn.position q) && not (is_apart l.replies l.w q)) l.q-iterator
      ≡ count_by (λ q. goes_on (outcome g.R.Rule.KIND l.fn.position q) && not (is_apart l.replies l.w q)) (points_of l.fn.position);
}
