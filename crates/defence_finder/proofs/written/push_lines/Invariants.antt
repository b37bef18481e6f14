use Rattle.std.proofs.Common.{◌≡◌, ◌++◌, take, string_bytes, flat_map}
use Rattle.defence_finder.proofs.Common.{point_line}
use Rattle.defence_finder.proofs.written.push_lines.Given as goal

-- the lines so far stand behind the text
abbrev pub invariant-loop-at : goal.invariant-loop-at
invariant-loop-at l = string_bytes l.text ≡ string_bytes l.fn.text ++ flat_map point_line (take l.at-index l.points)
