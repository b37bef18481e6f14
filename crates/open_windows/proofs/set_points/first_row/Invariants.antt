use Rattle.std.proofs.Common.{◌≡◌, ◌+◌}
use Rattle.open_windows.specs.PointSets.{points_from}
use Rattle.open_windows.proofs.set_points.first_row.Given as goal

-- the rows so far have no point
abbrev pub invariant-loop-y : goal.invariant-loop-y
invariant-loop-y l = points_from l.rows l.fn.width l.fn.height (l.fn.row.y + 1) ≡ points_from l.rows l.fn.width l.fn.height l.y
