use Rattle.std.proofs.Common.{◌≡◌, ◌+◌, ◌-◌, []}
use Rattle.threat_space.specs.Sequences.{final_of}
use Rattle.threat_space.proofs.FoundInLists.{from_length}
use Rattle.threat_space.proofs.answer.first_found.Given as goal

-- the board is as before, the path empty, and what is remembered is of the side; what is found with the lengths left is what is found with
-- all
abbrev pub invariant-loop-count : goal.invariant-loop-count
invariant-loop-count g l = record {
  same : l.board ≡ l.fn.board;
  path : l.trail.path ≡ [];
  side : l.trail.memory.side ≡ l.fn.origin.side;
  rest : from_length g.R.Rule.KIND (final_of g.R.Rule.KIND l.fn.origin.side l.fn.board) l.fn.origin.side l.fn.board l.left l.count
      (l.length + 1 - l.count)
      ≡ from_length g.R.Rule.KIND (final_of g.R.Rule.KIND l.fn.origin.side l.fn.board) l.fn.origin.side l.fn.board l.budget 0
      (l.length + 1);
}
