use Rattle.std.proofs.Common.{◌++◌, ap, ◌∙◌, List}
use Rattle.std.specs.List.{filter}
use Rattle.game_rules.specs.Grid.{Grid}
use Rattle.game_rules.specs.Shapes.{five}
use Rattle.game_rules.specs.declared.Point.{Point}
use Rattle.open_windows.proofs.NewFives.{five-point-in}
use Rattle.open_windows.proofs.SetOrder.{filter-windows}
use Rattle.open_windows.proofs.fives.five_points.Goals as goal

pub loop-p-init : goal.loop-p-init
loop-p-init g c =
    let b : Grid = c.args.board.now in
    let tells = c.window_points-windows.ensures.points in
    ap (λ (ps : List Point). ps ++ filter (five g.R.Rule.KIND b c.args.side) c.into_iter-p-iterator.result) c.new-found.ensures.empty
    ∙ ap (filter (five g.R.Rule.KIND b c.args.side)) (c.into_iter-p-iterator.ensures.into_iter_gives ∙ c.points-p-items.ensures.points)
    ∙ filter-windows b c.args.side 4 c.window_points-windows.result tells (five g.R.Rule.KIND b c.args.side)
    (λ p h. five-point-in g.R.Rule.KIND b c.args.side p tells.board h)
