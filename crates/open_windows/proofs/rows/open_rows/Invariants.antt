use Rattle.std.proofs.Common.{◌+◌}
use Rattle.open_windows.specs.OpenWindows.{is_open_at}
use Rattle.open_windows.specs.Rows.{TellsTo}
use Rattle.open_windows.proofs.rows.open_rows.Given as goal

-- the rows so far are told
abbrev pub invariant-loop-y : goal.invariant-loop-y
invariant-loop-y l = TellsTo (is_open_at l.board l.side) l.rows (l.y + 4)
