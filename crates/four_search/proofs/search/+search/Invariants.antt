use Rattle.std.proofs.Common.{◌≡◌, ◌+◌, ◌*◌, ◌-◌, drop, map}
use Rattle.four_search.proofs.Trying.{try_all}
use Rattle.four_search.proofs.search.+search.Given as goal

abbrev pub decreases-remembered : goal.decreases-remembered
decreases-remembered g l = 7 * l.limits.moves

abbrev pub decreases-search_on : goal.decreases-search_on
decreases-search_on g l = 7 * l.limits.moves + 1

abbrev pub decreases-try_four_points : goal.decreases-try_four_points
decreases-try_four_points g l = 7 * (l.limits.moves - 1) + 6

abbrev pub decreases-try_point : goal.decreases-try_point
decreases-try_point g l = 7 * l.limits.moves + 5

abbrev pub decreases-behind : goal.decreases-behind
decreases-behind g l = 7 * l.limits.moves + 4

abbrev pub decreases-answering : goal.decreases-answering
decreases-answering g l = 7 * l.limits.moves + 3

abbrev pub decreases-after_block : goal.decreases-after_block
decreases-after_block g l = 7 * l.limits.moves + 2

-- the view is as before; the points left give what all points give
abbrev pub invariant-try_four_points-loop-four_point : goal.invariant-try_four_points-loop-four_point
invariant-try_four_points-loop-four_point g l = record {
  same : g.V.Seen.position l.view ≡ g.V.Seen.position l.fn.view;
  rest : try_all g.R.Rule.KIND (l.limits.moves - 1) (g.V.Seen.position l.fn.view) l.left
      (map (λ m. m.at) (drop l.four_point-index l.four_points))
      ≡ try_all
      g.R.Rule.KIND (l.limits.moves - 1) (g.V.Seen.position l.fn.view) (l.limits.budget - 1) (map (λ m. m.at) l.four_points);
}
