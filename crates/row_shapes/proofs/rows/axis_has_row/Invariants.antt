use Rattle.std.proofs.Common.{◌≡◌, ◌<◌, true, false}
use Rattle.game_rules.specs.Grid.{holds}
use Rattle.game_rules.specs.Shapes.{row_wins, run_of}
use Rattle.game_rules.specs.declared.Point.{Point}
use Rattle.game_rules.specs.declared.RuleKind.{RuleKind}
use Rattle.stone_board.specs.Lines.{line_of}
use Rattle.row_shapes.proofs.rows.axis_has_row.Given as goal

-- on the lines so far no run wins
abbrev pub invariant-loop-n : goal.invariant-loop-n
invariant-loop-n l = (rule : RuleKind) (q : Point) → line_of l.axis q < l.n → holds l.board l.side q ≡ true
    → row_wins rule l.side (run_of l.board l.side l.axis q) ≡ false
