use Rattle.std.proofs.Common.{◌≡◌, drop}
use Rattle.threat_space.specs.Sequences.{with_stones}
use Rattle.threat_space.proofs.boards.put_all.Given as goal

-- stones on the points left make of the board now what stones on all make of the board before
abbrev pub invariant-loop-p : goal.invariant-loop-p
invariant-loop-p l = with_stones l.board l.side (drop l.p-index l.points) ≡ with_stones l.fn.board l.side l.points
