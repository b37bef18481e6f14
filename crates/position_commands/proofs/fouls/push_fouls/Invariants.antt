use Rattle.std.proofs.Common.{◌≡◌, ◌++◌, take, string_bytes, flat_map}
use Rattle.position_commands.proofs.Common.{foul_line}
use Rattle.position_commands.proofs.fouls.push_fouls.Given as goal

-- the lines so far stand behind the text
abbrev pub invariant-loop-found : goal.invariant-loop-found
invariant-loop-found l = string_bytes l.text ≡ string_bytes l.fn.text ++ flat_map foul_line (take l.found-index l.fouls)
