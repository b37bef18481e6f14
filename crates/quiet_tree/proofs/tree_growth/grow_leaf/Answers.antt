-- The children are few and small, so that the tree stays small.
use Rattle.std.proofs.Common.{rules}
use Rattle.quiet_tree.proofs.Growth.{small-grown, small-numbers, sums-below}
use Rattle.quiet_tree.proofs.tree_growth.grow_leaf.Goals as goal

pub expand-requires-clause-each : goal.expand-requires-clause-each
expand-requires-clause-each c = small-numbers c.args.children.now (search rules)

pub expand-requires-clause-sums : goal.expand-requires-clause-sums
expand-requires-clause-sums c =
    sums-below c.args.tree.now c.args.most c.most_proving.result c.args.children.now c.requires.small c.is_decided.ensures.tree
    c.most_proving.ensures.leaf c.most_proving.ensures.in_tree c.most_proving.ensures.childless (search rules) (search rules) (search rules)

pub returns : goal.returns
returns c = record {
  small = small-grown c.args.tree.now c.args.most c.most_proving.result c.args.children.now c.requires.small c.is_decided.ensures.tree
      c.most_proving.ensures.leaf c.most_proving.ensures.in_tree c.most_proving.ensures.childless (search rules) (search rules)
      (search rules) c.expand.new.self c.in_ok-expand.ensures.links c.in_ok-expand.ensures.leaves;
}
