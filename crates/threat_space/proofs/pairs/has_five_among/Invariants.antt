use Rattle.std.proofs.Common.{◌≡◌}
use Rattle.std.specs.List.{list_any}
use Rattle.game_rules.proofs.Common.{five, has_five}
use Rattle.threat_space.proofs.pairs.has_five_among.Given as goal

-- some point left is a five point exactly where some point of the board is
abbrev pub invariant-loop-p : goal.invariant-loop-p
invariant-loop-p g l = list_any (five g.R.Rule.KIND l.board l.side) l.p-iterator ≡ has_five g.R.Rule.KIND l.board l.side
