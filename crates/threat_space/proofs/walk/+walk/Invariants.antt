use Rattle.std.proofs.Common.{◌≡◌, ◌+◌, ◌*◌, true, [], drop}
use Rattle.threat_space.proofs.Common.{final_of, lists_of, lists_from, AreBarren}
use Rattle.threat_space.proofs.FoundInLists.{from_threats}
use Rattle.threat_space.proofs.walk.+walk.Given as goal

abbrev pub decreases-walk : goal.decreases-walk
decreases-walk g l = 2 * l.to_come.now.more

abbrev pub decreases-walk_from : goal.decreases-walk_from
decreases-walk_from g l = 2 * l.to_come.now.more + 1

-- the path is as before; what is found with the threats left is what is found with all, and where those before were barren, and so are
-- those left, all are
abbrev pub invariant-walk_from-loop-threat : goal.invariant-walk_from-loop-threat
invariant-walk_from-loop-threat g l = record {
  path : l.trail.path ≡ l.fn.trail.path;
  rest : from_threats (final_of g.R.Rule.KIND l.origin.side l.origin.start.now) l.fn.trail.path
      (lists_of g.R.Rule.KIND l.origin.side l.to_come.more) l.origin.side l.board l.left
      (drop l.threat-index l.threats)
      ≡ from_threats (final_of g.R.Rule.KIND l.origin.side l.origin.start.now) l.fn.trail.path
      (lists_of g.R.Rule.KIND l.origin.side l.to_come.more) l.origin.side l.board l.budget
      l.threats;
  barren : l.barren ≡ true → AreBarren g.R.Rule.KIND l.origin.side l.board []
      (lists_from (lists_of g.R.Rule.KIND l.origin.side l.to_come.more) l.origin.side l.board (drop l.threat-index l.threats))
      → AreBarren g.R.Rule.KIND l.origin.side l.board []
      (lists_from (lists_of g.R.Rule.KIND l.origin.side l.to_come.more) l.origin.side l.board l.threats);
  side : l.trail.memory.side ≡ l.origin.side;
}
