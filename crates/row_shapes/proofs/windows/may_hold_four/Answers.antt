use Rattle.row_shapes.proofs.WindowLaws.{is_zero}
use Rattle.row_shapes.proofs.PairBits.{no_pairs, pair_bits}
use Rattle.row_shapes.proofs.windows.may_hold_four.Goals as goal

pub returns : goal.returns
returns c = record { none = λ off. no_pairs c.args.own (is_zero (pair_bits c.args.own) off) }
