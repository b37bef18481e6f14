use Rattle.stone_board.proofs.Orders.{points_left-all}
use Rattle.stone_board.proofs.order.ReadingOrder.new.Goals as goal

pub returns : goal.returns
returns c = record { all = points_left-all c.args.width c.args.height }
