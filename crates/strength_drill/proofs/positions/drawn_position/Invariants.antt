use Rattle.std.proofs.Common.{◌≡◌}
use Rattle.strength_drill.specs.Draws.{number_after, board_drawn}
use Rattle.strength_drill.proofs.positions.drawn_position.Given as goal

-- the position and the number are those after as many draws
abbrev pub invariant-loop : goal.invariant-loop
invariant-loop g l = record {
  number : l.draws.number ≡ number_after l.fn.draws.number l.counter;
  position : l.position ≡ board_drawn g.R.Rule.KIND l.fn.draws.number l.counter;
}
