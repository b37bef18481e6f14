use Rattle.std.proofs.Common.{take}
use Rattle.join_command.proofs.Common.{TableOnBoard, GrowsBy, IsCompiled, AreAdopted, node_count}
use Rattle.join_command.proofs.adopting.adopt_files.Given as goal

abbrev pub invariant-loop-file : goal.invariant-loop-file
invariant-loop-file l = record {
  adopted : AreAdopted l.board l.nodes (take l.file-index l.files) l.roots.items;
  grows : GrowsBy l.initial.nodes l.nodes (node_count (take l.file-index l.files));
  compiled : IsCompiled l.nodes;
  on_board : TableOnBoard l.board l.initial.nodes → TableOnBoard l.board l.nodes;
}
