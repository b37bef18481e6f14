use Rattle.std.proofs.Common.{◌≡◌, ◌++◌, take, string_bytes}
use Rattle.text_lines.specs.Spellings.{points_text}
use Rattle.text_lines.proofs.written.push_points.Given as goal

-- the points so far stand behind the text
abbrev pub invariant-loop-at : goal.invariant-loop-at
invariant-loop-at l = string_bytes l.text ≡ string_bytes l.fn.text ++ points_text (take l.at-index l.points)
