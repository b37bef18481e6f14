use Rattle.std.proofs.Common.{◌≡◌, ◌++◌, take, string_bytes, flat_map}
use Rattle.position_commands.proofs.Common.{threat_line}
use Rattle.position_commands.proofs.threats.push_threats.Given as goal

-- the lines so far stand behind the text
abbrev pub invariant-loop-threat : goal.invariant-loop-threat
invariant-loop-threat l = string_bytes l.text ≡ string_bytes l.fn.text ++ flat_map threat_line (take l.threat-index l.threats)
