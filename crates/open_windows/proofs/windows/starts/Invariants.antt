use Rattle.game_rules.specs.Grid.{Grid}
use Rattle.game_rules.specs.Shapes.{stone_at}
use Rattle.game_rules.specs.declared.Side.{Side}
use Rattle.open_windows.specs.OpenWindows.{is_open_at, is_window}
use Rattle.open_windows.specs.Rows.{TellsRows, TellsTo}
use Rattle.open_windows.proofs.windows.starts.Given as goal

-- the windows that begin in the rows so far are told
abbrev pub invariant-loop-i : goal.invariant-loop-i
invariant-loop-i l = (b : Grid) (s : Side) → TellsRows (stone_at b s) l.own → TellsRows (is_open_at b s) l.clear
    → TellsTo (is_window b s l.least l.axis) l.found l.i
