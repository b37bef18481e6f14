use Rattle.strength_drill.proofs.DrillCourse.{IsAtTurn}
use Rattle.strength_drill.proofs.drill_game.play_against.Given as goal

-- the brain has made a move by the table after as many turns
abbrev pub invariant-loop-turns : goal.invariant-loop-turns
invariant-loop-turns g l = IsAtTurn l.fn.brain.held g.R.Rule.KIND l.fn.position l.fn.draws.number l.brain l.draws.number l.position l.at
    l.turns
