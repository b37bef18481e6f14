use Rattle.position_files.proofs.SectionLaws.{AreRead}
use Rattle.position_files.proofs.nodes.node_lines.Given as goal

abbrev pub invariant-loop-number : goal.invariant-loop-number
invariant-loop-number l = AreRead l.width l.height l.table l.number l.bytes l.rest
