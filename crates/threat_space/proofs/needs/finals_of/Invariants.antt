use Rattle.std.proofs.Common.{◌≡◌, true, List, find}
use Rattle.threat_space.proofs.Common.{Grid, Threat, is_sequence, final_of, played_all, EndsAlike}
use Rattle.threat_space.proofs.needs.finals_of.Given as goal

-- the board is as before; the first of the points left with which the list is a sequence is the first of all, and so it is of each list
-- that leads to the board and ends alike, where none of the points before can end one
abbrev pub invariant-loop-p : goal.invariant-loop-p
invariant-loop-p g l = record {
  same : l.board ≡ l.fn.board;
  first : find (is_sequence g.R.Rule.KIND l.side l.start l.threats) l.p-iterator ≡ final_of g.R.Rule.KIND l.side l.start l.threats;
  none : l.barren ≡ true → (start : Grid) (us : List Threat) → EndsAlike l.threats us → l.fn.board ≡ played_all start l.side us
      → find (is_sequence g.R.Rule.KIND l.side start us) l.p-iterator ≡ final_of g.R.Rule.KIND l.side start us;
}
