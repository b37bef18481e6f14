use Rattle.std.proofs.Common.{length, refl}
use Rattle.strategy_compiler.proofs.Common.{lent_node, answers_of}
use Rattle.strategy_graph.proofs.Naming.{replies-below}
use Rattle.strategy_compiler.proofs.renumbering.renumbered.Goals as goal

pub renumbered_replies-requires : goal.renumbered_replies-requires
renumbered_replies-requires c = record {
  below = replies-below (answers_of (lent_node c.args.node)) (length c.args.places.now) c.args.node.replies.now refl c.requires.below;
}
