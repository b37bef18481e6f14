use Rattle.std.proofs.Common.{◌-◌}
use Rattle.game_rules.proofs.Common.{Grid, IsPosition}
use Rattle.game_referee.proofs.Common.{WentOn}
use Rattle.game_referee.proofs.judging.take_back.Given as goal

-- the moves that are not yet taken back, from a position, and from each from which all were played
abbrev pub invariant-loop-back : goal.invariant-loop-back
invariant-loop-back g l =
    ((b : Grid) × IsPosition g.R.Rule.KIND b × WentOn g.R.Rule.KIND b l.moves (l.played - l.back) l.position)
    × ((b : Grid) → IsPosition g.R.Rule.KIND b → WentOn g.R.Rule.KIND b l.moves l.played l.fn.position
    → WentOn g.R.Rule.KIND b l.moves (l.played - l.back) l.position)
