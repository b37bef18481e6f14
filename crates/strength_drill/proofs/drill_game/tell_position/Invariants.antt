use Rattle.std.proofs.Common.{◌≡◌}
use Rattle.strength_drill.specs.DrillGames.{position_lines, stone_lines, told_all}
use Rattle.strength_drill.proofs.drill_game.tell_position.Given as goal

-- with the lines of the points that are left the brain is told all
abbrev pub invariant-loop-p : goal.invariant-loop-p
invariant-loop-p l = told_all l.brain (stone_lines l.board l.p-iterator) ≡ told_all l.fn.brain (position_lines l.fn.kind l.board)
