use Rattle.std.proofs.Common.{◌∙◌}
use Rattle.strategy_graph.proofs.Filling.{greatest-read, start_depth-read}
use Rattle.strategy_graph.proofs.table.Table.start_depth.Goals as goal

pub returns-clause-depth : goal.returns-clause-depth
returns-clause-depth c =
    start_depth-read c.args.self.now c.self.inside.nodes c.self.inside.depths.items c.args.start.now c.deepest.result c.self.view_is
    c.self.invariant.counted c.requires.below
    (greatest-read c.self.inside.depths.items c.as_slice-depths.result.now c.args.start.now c.as_slice.result.now c.rest.result
    c.deepest.result c.as_slice-depths.ensures.value (c.as_slice.ensures.items ∙ c.replies.ensures.listed) c.rest.ensures.rest
    c.deepest.ensures.greatest)
