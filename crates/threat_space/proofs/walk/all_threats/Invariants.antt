use Rattle.std.proofs.Common.{◌≡◌, ◌++◌, flat_map}
use Rattle.threat_moves.proofs.Common.{threats_at, threats_of}
use Rattle.threat_space.proofs.walk.all_threats.Given as goal

-- the board is as before; the threats found, and those of the gains left, are all
abbrev pub invariant-loop-gain : goal.invariant-loop-gain
invariant-loop-gain g l = record {
  same : l.board ≡ l.fn.board;
  all : l.found ++ flat_map (threats_at g.R.Rule.KIND l.fn.board l.side) l.gain-iterator ≡ threats_of g.R.Rule.KIND l.fn.board l.side;
}
