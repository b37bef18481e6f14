use Rattle.open_windows.proofs.SetBits.{no-point}
use Rattle.open_windows.proofs.point_set.PointSet.empty.Goals as goal

pub returns : goal.returns
returns c = record { none = no-point }
