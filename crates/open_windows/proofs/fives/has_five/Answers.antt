use Rattle.std.proofs.Common.{true, ap, ◌∙◌}
use Rattle.std.specs.List.{list_any}
use Rattle.std.proofs.lemmas.Map.Views.{any-filter_same}
use Rattle.game_rules.proofs.Common.{Grid, points_of, five}
use Rattle.game_rules.proofs.Boards.{is_empty-on}
use Rattle.game_rules.proofs.Fives.{five-empty}
use Rattle.open_windows.specs.PointSets.{has_point}
use Rattle.open_windows.proofs.NewFives.{five-point-in}
use Rattle.open_windows.proofs.fives.has_five.Goals as goal

pub loop-p-init : goal.loop-p-init
loop-p-init g c =
    let b : Grid = c.args.board.now in
    let tells = c.window_points-windows.ensures.points in
    ap (list_any (five g.R.Rule.KIND b c.args.side)) (c.into_iter-p-iterator.ensures.into_iter_gives ∙ c.points-p-items.ensures.points)
    ∙ any-filter_same (five g.R.Rule.KIND b c.args.side) (has_point c.window_points-windows.result) true
    (λ p h. tells.points p (is_empty-on b p (five-empty g.R.Rule.KIND b c.args.side p h))
    ∙ five-point-in g.R.Rule.KIND b c.args.side p tells.board h) (points_of b)
