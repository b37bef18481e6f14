-- Each frame that is taken is left, or the walk goes on.
use Rattle.std.proofs.Common.{vec_len}
use Rattle.quiet_zones.proofs.zones.Zones.hand_up.Given as goal

abbrev pub decreases-loop-frame : goal.decreases-loop-frame
decreases-loop-frame g l = vec_len l.frames
