use Rattle.std.proofs.Common.{◌+◌, ◌<◌, arith}
use Rattle.std.proofs.lemmas.Nat.{one_shl}
use Rattle.std.proofs.Math.Pow.{pow_mono}
use Rattle.row_shapes.proofs.places.on_board.Goals as goal

pub overflow_sub-result : goal.overflow_sub-result
overflow_sub-result c =
    let low : c.saturating_sub.result < 64 = omega arith in
    let high : c.args.reach + 1 + c.steps_left-ahead.result < 64 = grind arith in
    rw (one_shl c.saturating_sub.result 64 low, one_shl (c.args.reach + 1 + c.steps_left-ahead.result) 64 high) (pow_mono (omega arith))
