use Rattle.row_shapes.proofs.WindowLaws.{passed}
use Rattle.row_shapes.proofs.windows.WindowLines.hold.Goals as goal

pub returns : goal.returns
returns c = record { none = λ off column row. passed c.args.self c.args.p column row off }
