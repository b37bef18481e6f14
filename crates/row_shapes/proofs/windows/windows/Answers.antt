use Rattle.std.specs.Prelude.{bit_or}
use Rattle.std.specs.Int.{bit_not, w32}
use Rattle.std.proofs.lemmas.Nat.{or_lt}
use Rattle.row_shapes.proofs.WindowLaws.{neither, window-bit}
use Rattle.row_shapes.proofs.WindowParts.{bit-window}
use Rattle.row_shapes.proofs.windows.windows.Goals as goal

pub returns : goal.returns
returns c =
    let fits = or_lt 32 c.args.own c.args.theirs c.ranges.own.fits c.ranges.theirs.fits in
    record {
      windows = λ i j h. window-bit c.args.own (bit_not w32 (bit_or c.args.own c.args.theirs)) c.args.theirs i
          (λ m low own theirs. neither c.args.own c.args.theirs m fits low own theirs) j h;
      only = λ i h. bit-window c.args.own c.args.theirs i fits h;
    }
