use Rattle.std.proofs.Common.{◌++◌, ap, ◌∙◌, List}
use Rattle.std.specs.List.{filter}
use Rattle.game_rules.specs.Grid.{Grid, points_of}
use Rattle.game_rules.specs.Play.{mover}
use Rattle.game_rules.specs.declared.Point.{Point}
use Rattle.open_windows.specs.PointSets.{has_point}
use Rattle.threat_game.specs.NearDoubles.{makes_two}
use Rattle.threat_game.proofs.WindowLaws.{two-in}
use Rattle.open_windows.proofs.SetOrder.{filter-windows}
use Rattle.threat_game.proofs.attacks.all_twos.Goals as goal

pub loop-p-init : goal.loop-p-init
loop-p-init g c =
    let b : Grid = g.V.Seen.position c.args.view.now in
    ap (λ (ps : List Point). ps ++ filter (makes_two g.R.Rule.KIND b (mover b)) c.into_iter-p-iterator.result) c.new-twos.ensures.empty
    ∙ ap (filter (makes_two g.R.Rule.KIND b (mover b))) (c.into_iter-p-iterator.ensures.into_iter_gives ∙ c.points-p-items.ensures.points
    ∙ ap (λ (w : Grid). filter (has_point c.args.windows.now) (points_of w)) c.board.ensures.board)
    ∙ filter-windows b (mover b) 3 c.args.windows.now c.requires.windows (makes_two g.R.Rule.KIND b (mover b))
    (λ p h. two-in g.R.Rule.KIND b (mover b) p c.requires.windows.board c.requires.none h)
