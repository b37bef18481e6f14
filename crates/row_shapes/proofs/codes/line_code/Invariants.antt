use Rattle.std.proofs.Common.{◌≡◌, ◌^◌, ◌<◌}
use Rattle.game_rules.specs.Grid.{along}
use Rattle.row_shapes.specs.LineCodes.{digit_at}
use Rattle.row_shapes.proofs.CodeDigits.{last_digits}
use Rattle.row_shapes.proofs.codes.line_code.Given as goal

abbrev pub invariant-loop-k : goal.invariant-loop-k
invariant-loop-k l = (l.code ≡ last_digits (λ i. digit_at l.board l.side (along l.axis l.p i l.reach)) l.reach l.k) × (l.code < 3 ^ l.k)
