use Rattle.std.proofs.Common.{◌≡◌, false}
use Rattle.std.specs.List.{list_all}
use Rattle.game_rules.proofs.Common.{outcome, loses_or}
use Rattle.threat_moves.specs.OneBlock.{all_foul}
use Rattle.four_search.proofs.search.all_foul.Given as goal

-- the view is as before; the points left all foul exactly where all points do
abbrev pub invariant-loop-q : goal.invariant-loop-q
invariant-loop-q g l = (g.V.Seen.position l.view ≡ g.V.Seen.position l.fn.view)
    × (list_all (λ q. loses_or (outcome g.R.Rule.KIND (g.V.Seen.position l.fn.view) q) false) l.q-iterator ≡ all_foul g.R.Rule.KIND
    (g.V.Seen.position l.fn.view))
