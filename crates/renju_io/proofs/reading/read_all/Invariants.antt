use Rattle.std.proofs.Common.{◌+◌, ◌<◌, ◌≤◌, ◌-◌, if◌then◌else◌, length, vec_len}
use Rattle.renju_io.proofs.Common.{HasStayed, IsAskedAtMost, Gives, tells_end}
use Rattle.renju_io.proofs.reading.read_all.Given as goal

-- the bytes so far are what the source has given, one at least by each read but the one that told the end, and are not too many
abbrev pub invariant-loop-source : goal.invariant-loop-source
invariant-loop-source g l = Gives (g.S.Source.left l.initial.source) l.bytes.items (g.S.Source.left l.source)
    × (vec_len l.bytes ≤ 16777216)
    × (0 < vec_len l.piece)
    × HasStayed (g.S.Source.faults l.initial.source) (g.S.Source.faults l.source)
    × IsAskedAtMost (length l.bytes.items + (if tells_end (g.S.Source.last l.source) then 1 else 0))
    (g.S.Source.asked l.initial.source) (g.S.Source.asked l.source)

abbrev pub decreases-loop-source : goal.decreases-loop-source
decreases-loop-source g l = 16777217 - vec_len l.bytes - (if tells_end (g.S.Source.last l.source) then 1 else 0)
