use Rattle.std.proofs.Common.{◌≡◌, false, take, All}
use Rattle.threat_game.specs.TwoMoves.{counters}
use Rattle.threat_game.proofs.escapes.none_counters.Given as goal

-- the view is as before, and none so far does
abbrev pub invariant-loop-p : goal.invariant-loop-p
invariant-loop-p g l = record {
  same : g.V.Seen.position l.view ≡ g.V.Seen.position l.fn.view;
  none : All (λ p. counters g.R.Rule.KIND (g.V.Seen.position l.fn.view) l.threat p ≡ false) (take l.p-index l.points);
}
