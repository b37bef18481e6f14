use Rattle.std.proofs.Common.{◌≡◌, ℕ, ◌+◌, ◌≤◌, ◌<◌, false, sum_by}
use Rattle.std.specs.List.{range_with_len}
use Rattle.game_rules.proofs.Common.{wins_by_fours}
use Rattle.four_search.proofs.Common.{four_tree, TellsRoot}
use Rattle.four_search.proofs.answer.seek_from.Given as goal

-- the view is as before, and what was seen at first is so; there is no win within the depths so far, and what is
-- left of the budget is what these did not take; the positions of the last of them are known
abbrev pub invariant-loop-done : goal.invariant-loop-done
invariant-loop-done g l = record {
  same : g.V.Seen.position l.view ≡ g.V.Seen.position l.fn.view;
  root : TellsRoot g.R.Rule.KIND (g.V.Seen.position l.fn.view) l.root;
  none : (k : ℕ) → 1 ≤ k → k ≤ l.done → wins_by_fours g.R.Rule.KIND k (g.V.Seen.position l.fn.view) ≡ false;
  spent : l.left + sum_by (λ k. four_tree g.R.Rule.KIND k (g.V.Seen.position l.fn.view)) (range_with_len 1 l.done) ≡ l.budget;
  first : l.done ≡ 0 → l.before ≡ 0;
  last : 0 < l.done → l.before ≡ four_tree g.R.Rule.KIND l.done (g.V.Seen.position l.fn.view);
}
