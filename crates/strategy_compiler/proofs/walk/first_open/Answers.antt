use Rattle.std.proofs.Common.{length}
use Rattle.strategy_graph.specs.Tables.{answers_of}
use Rattle.strategy_graph.proofs.Naming.{replies-below}
use Rattle.strategy_compiler.proofs.walk.first_open.Goals as goal

pub first_listed-requires : goal.first_listed-requires
first_listed-requires c = record {
  below = replies-below (answers_of c.args.node.now) (length c.args.is_completed.now) c.as_slice.result.now c.as_slice.ensures.items
      c.requires.below;
}
