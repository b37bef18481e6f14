use Rattle.std.proofs.Common.{◌≡◌, ◌<◌, false}
use Rattle.std.specs.Int.{bit_at}
use Rattle.game_rules.specs.Shapes.{wins_on}
use Rattle.game_rules.specs.declared.Point.{Point}
use Rattle.game_rules.specs.declared.RuleKind.{RuleKind}
use Rattle.stone_board.specs.Lines.{line_of}
use Rattle.row_shapes.proofs.windows.axis_windows.Given as goal

-- of the lines so far, on one whose bit is 0 no stone wins
abbrev pub invariant-loop-n : goal.invariant-loop-n
invariant-loop-n l = (rule : RuleKind) (q : Point) → line_of l.axis q < l.n → bit_at l.found (line_of l.axis q) ≡ 0
    → wins_on rule l.board l.side l.axis q ≡ false
