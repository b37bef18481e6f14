use Rattle.std.proofs.Common.{◌≡◌, take, All}
use Rattle.game_rules.specs.Play.{outcome}
use Rattle.game_rules.specs.declared.Outcome.TheVariants.{GoesOn}
use Rattle.threat_game.specs.Replies.{IsBeside}
use Rattle.threat_game.proofs.replies.still_double.Given as goal

-- the view is as before, and none of the double points that were looked at wins still
abbrev pub invariant-loop-kept : goal.invariant-loop-kept
invariant-loop-kept g l = record {
  same : g.V.Seen.position l.view ≡ g.V.Seen.position l.fn.view;
  stopped : All (λ kept. IsBeside kept.double l.q → ¬ (outcome g.R.Rule.KIND (g.V.Seen.position l.fn.view) kept.double.at ≡ GoesOn))
      (take l.kept-index l.doubles);
}
