use Rattle.std.proofs.Common.{◌+◌}
use Rattle.game_rules.specs.Shapes.{stone_at}
use Rattle.open_windows.specs.Rows.{TellsTo}
use Rattle.open_windows.proofs.rows.own_rows.Given as goal

-- the rows so far are told
abbrev pub invariant-loop-y : goal.invariant-loop-y
invariant-loop-y l = TellsTo (stone_at l.board l.side) l.rows (l.y + 4)
