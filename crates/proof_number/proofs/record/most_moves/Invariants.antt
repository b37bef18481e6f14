use Rattle.std.proofs.Common.{◌≡◌, ◌<◌, map, max, drop}
use Rattle.strategy_graph.specs.Tables.{greatest}
use Rattle.proof_number.proofs.record.most_moves.Given as goal

abbrev pub invariant-loop-note : goal.invariant-loop-note
invariant-loop-note l = record {
  most : greatest (map (λ n. n.moves) l.notes) ≡ max l.most (greatest (map (λ n. n.moves) (drop l.note-index l.notes)));
  few : l.most < 256;
}
