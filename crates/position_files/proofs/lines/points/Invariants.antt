use Rattle.std.proofs.Common.{length, option_copied}
use Rattle.text_lines.proofs.Common.{space, point_text, IsWithin, tail_text}
use Rattle.text_lines.proofs.Items.{Follows}
use Rattle.position_files.proofs.lines.points.Given as goal

-- the line begins with these points, and goes on with the rest
abbrev pub invariant-loop-rest : goal.invariant-loop-rest
invariant-loop-rest l = Follows
    (IsWithin l.width l.height) point_text l.points (tail_text space (option_copied l.rest)) (tail_text space (option_copied l.fn.tail))

abbrev pub decreases-loop-rest : goal.decreases-loop-rest
decreases-loop-rest l = length (tail_text space (option_copied l.rest))
