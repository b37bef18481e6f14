use Rattle.open_windows.proofs.WindowBits.{PointsTo}
use Rattle.open_windows.proofs.windows.window_points.Given as goal

-- the points of the rows so far are told
abbrev pub invariant-loop-y : goal.invariant-loop-y
invariant-loop-y l = PointsTo l.board l.fn.side l.least l.rows l.y
