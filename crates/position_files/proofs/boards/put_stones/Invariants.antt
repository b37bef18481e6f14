use Rattle.position_files.proofs.Stones.{ArePut}
use Rattle.position_files.proofs.boards.put_stones.Given as goal

abbrev pub invariant-loop-p : goal.invariant-loop-p
invariant-loop-p l = ArePut l.fn.board l.board l.side l.points l.p-index l.least
