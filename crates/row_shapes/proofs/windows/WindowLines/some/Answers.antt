use Rattle.std.proofs.Common.{ℕ}
use Rattle.stone_board.specs.Lines.{line_of}
use Rattle.game_rules.specs.declared.Axis.TheVariants.{Row, Column, Down, Up}
use Rattle.row_shapes.proofs.WindowLaws.{is_zero, none_of_four}
use Rattle.row_shapes.proofs.windows.WindowLines.some.Goals as goal

pub returns : goal.returns
returns c = record {
  none = λ off p.
      let lines = c.args.self in
      let zero = is_zero _ off in
      let none = λ (i : ℕ). none_of_four lines.row lines.column lines.down lines.up i zero in
      record {
        row = (none (line_of Row p)).0;
        column = (none (line_of Column p)).1;
        down = (none (line_of Down p)).2;
        up = (none (line_of Up p)).3;
      };
}
