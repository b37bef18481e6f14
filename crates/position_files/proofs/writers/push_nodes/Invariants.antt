use Rattle.std.proofs.Common.{◌≡◌, ◌++◌, take, map, string_bytes}
use Rattle.position_files.proofs.Common.{text_of, node_line}
use Rattle.position_files.proofs.writers.push_nodes.Given as goal

-- the lines of the nodes so far stand behind the text
abbrev pub invariant-loop-i : goal.invariant-loop-i
invariant-loop-i l = string_bytes l.text ≡ string_bytes l.fn.text ++ text_of (map node_line (take l.i l.table))
