use Rattle.std.proofs.Common.{◌≡◌, String, Global, Result, Ok, Err, IfOk, string_bytes}
use Rattle.brain_commands.proofs.Common.{IsDrillText, drill_lines}
use Rattle.brain_commands.proofs.drill.lines_of.Goals as goal

pub returns : goal.returns
returns c = record { lines = by_text c.counted_lines.result c.counted_lines.ensures.lines } where
  by_text : {E : Type 0} (r : Result (String Global) E) → IfOk r (λ t. string_bytes t ≡ drill_lines c.args.number c.in_ok-counts.counts)
      → IfOk r (λ t. IsDrillText c.args.number (string_bytes t))
  by_text (Ok text) lines = record { counts = c.in_ok-counts.counts; counted = c.in_ok-counts.ensures.counted; lines = lines }
  by_text (Err e) none = none
