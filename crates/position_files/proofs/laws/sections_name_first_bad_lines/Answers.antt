use Rattle.position_files.proofs.ReadBack.{heads-first-bad, nodes-first-bad, starts-first-bad}
use Rattle.position_files.proofs.laws.sections_name_first_bad_lines.Goals as goal

pub returns : goal.returns
returns c = record { heads = heads-first-bad; nodes = nodes-first-bad; starts = starts-first-bad }
