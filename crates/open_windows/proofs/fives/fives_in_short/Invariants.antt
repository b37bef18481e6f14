use Rattle.std.proofs.Common.{◌≡◌, ◌++◌, ◌∷◌, [], List, Option, Some, None, filter}
use Rattle.game_rules.specs.declared.Point.{Point}
use Rattle.game_rules.proofs.Common.{five, five_points}
use Rattle.open_windows.proofs.fives.fives_in_short.Given as goal

-- the list of a point, if there is one
abbrev pub listed : Option Point → List Point
listed None = []
listed (Some p) = p ∷ []

-- the first found, and the five points among the points left, are all
abbrev pub invariant-loop-p : goal.invariant-loop-p
invariant-loop-p g l = listed l.first ++ filter (five g.R.Rule.KIND l.board l.side) l.p-iterator ≡ five_points g.R.Rule.KIND l.board l.side
