-- The case of one root.
use Rattle.std.proofs.Common.{◌∙◌}
use Rattle.strategy_compiler.proofs.Places.{finished}
use Rattle.strategy_compiler.proofs.compiler.Compiler.finish.Goals as goal

pub returns : goal.returns
returns c =
    let done = finished c.args.self c.as_slice.result.now c.args.root c.in_ok-made.made.table (c.as_slice.ensures.keys ∙ c.self.view_is)
    (rw (c.as_slice.ensures.keys) c.self.invariant.table) c.in_ok-made.ensures.made in
    record {
      nodes = done.nodes;
      trees = done.trees;
      some = done.some;
      few = done.few;
      different = c.in_ok-made.ensures.made.different;
      reached = done.reached;
      numbered = done.numbered;
      same = done.same;
      points = done.points;
    }
