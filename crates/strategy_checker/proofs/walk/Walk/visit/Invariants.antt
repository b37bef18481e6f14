use Rattle.std.proofs.Common.{length, reverse}
use Rattle.strategy_checker.specs.Meetings.{Handed, to_do}
use Rattle.strategy_checker.proofs.walk.Walk.visit.Given as goal

-- a node was entered above those that wait
abbrev pub invariant-loop-walked : goal.invariant-loop-walked
invariant-loop-walked g l =
    Handed g.R.Rule.KIND l.table l.fn.i l.fn.position l.fn.self.left (reverse l.waiting.items) l.self l.position l.walked

abbrev pub decreases-loop-walked : goal.decreases-loop-walked
decreases-loop-walked g l = to_do l.self.left (length l.waiting.items) l.walked
