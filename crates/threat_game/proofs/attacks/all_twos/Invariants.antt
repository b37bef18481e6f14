use Rattle.std.proofs.Common.{◌≡◌, ◌++◌, filter}
use Rattle.game_rules.proofs.Common.{mover}
use Rattle.threat_game.proofs.Common.{makes_two, points_of_two}
use Rattle.threat_game.proofs.attacks.all_twos.Given as goal

-- the points found, and those of the points left, are all
abbrev pub invariant-loop-p : goal.invariant-loop-p
invariant-loop-p g l =
    l.twos ++ filter (makes_two g.R.Rule.KIND (g.V.Seen.position l.view) (mover (g.V.Seen.position l.view))) l.p-iterator
    ≡ points_of_two g.R.Rule.KIND (g.V.Seen.position l.view) (mover (g.V.Seen.position l.view))
