use Rattle.open_windows.proofs.SetBits.{each-point}
use Rattle.open_windows.proofs.point_set.PointSet.all.Goals as goal

pub returns : goal.returns
returns c = record { all = each-point }
