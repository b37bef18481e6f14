use Rattle.open_windows.proofs.SetOrder.{all-points}
use Rattle.open_windows.proofs.point_set.PointSet.points.Goals as goal

pub returns-clause-points : goal.returns-clause-points
returns-clause-points c =
    all-points c.self.inside.rows c.args.board.now c.height.ensures.board c.width-width.result c.height.result c.full_row.result
    c.width-width.ensures.width c.height.ensures.height c.full_row.ensures.full c.args.self.now c.self.view_is
