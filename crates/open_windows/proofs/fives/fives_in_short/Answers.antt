use Rattle.std.proofs.Common.{ap, ◌∙◌}
use Rattle.std.specs.List.{filter}
use Rattle.game_rules.proofs.Common.{Grid, five}
use Rattle.open_windows.proofs.NewFives.{five-point-in}
use Rattle.open_windows.proofs.SetOrder.{filter-windows}
use Rattle.open_windows.proofs.fives.fives_in_short.Goals as goal

pub loop-p-init : goal.loop-p-init
loop-p-init g c =
    let b : Grid = c.args.board.now in
    let tells = c.window_points-windows.ensures.points in
    ap (filter (five g.R.Rule.KIND b c.args.side)) (c.into_iter-p-iterator.ensures.into_iter_gives ∙ c.points-p-items.ensures.points)
    ∙ filter-windows b c.args.side 4 c.window_points-windows.result tells (five g.R.Rule.KIND b c.args.side)
    (λ p h. five-point-in g.R.Rule.KIND b c.args.side p tells.board h)
