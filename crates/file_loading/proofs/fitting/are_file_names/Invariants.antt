use Rattle.std.proofs.Common.{map, take, string_bytes}
use Rattle.std.specs.List.{AllByRecursion}
use Rattle.file_loading.specs.HeldFiles.{IsFileName}
use Rattle.file_loading.proofs.fitting.are_file_names.Given as goal

abbrev pub invariant-loop-name : goal.invariant-loop-name
invariant-loop-name l = AllByRecursion IsFileName (map string_bytes (take l.name-index l.names))
