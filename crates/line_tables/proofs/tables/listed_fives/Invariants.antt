use Rattle.std.proofs.Common.{◌≡◌, ◌≤◌, ◌++◌, filter}
use Rattle.game_rules.proofs.Common.{five, five_points}
use Rattle.line_tables.proofs.tables.listed_fives.Given as goal

-- the five points found, and those of the points left, are all, and the room for eight stays
abbrev pub invariant-loop-p : goal.invariant-loop-p
invariant-loop-p g l = record {
  all : l.found.items ++ filter (five g.R.Rule.KIND l.board l.side) l.p-iterator ≡ five_points g.R.Rule.KIND l.board l.side;
  room : 8 ≤ l.found.capacity;
}
