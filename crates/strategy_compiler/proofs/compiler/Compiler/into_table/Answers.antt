-- The nodes that are taken out so far, and those that are left, are all nodes.
use Rattle.std.proofs.Common.{◌∙◌, ◌++◌, ap, sym, subst, List, append-nil}
use Rattle.strategy_compiler.proofs.Common.{Node, IsCompiled}
use Rattle.strategy_compiler.proofs.Handing.{next-is_node, next-has_room, next-done}
use Rattle.strategy_compiler.proofs.compiler.Compiler.into_table.Goals as goal

pub loop-node-init : goal.loop-node-init
loop-node-init c = ap (λ (ns : List Node). ns ++ c.into_iter-node-iterator.result) c.new-table.ensures.empty
    ∙ c.into_iter-node-iterator.ensures.into_iter_gives.0 ∙ c.self.view_is

pub push_node-requires-clause-node : goal.push_node-requires-clause-node
push_node-requires-clause-node c =
    next-is_node c.self.inside.nodes.keys c.loop-node.table c.loop-node.node-iterator c.next.new.self c.in-Some.node c.self.invariant.table
    (c.loop-node.invariant ∙ sym c.self.view_is) c.in-Some.ensures.steps

pub push_node-requires-clause-room : goal.push_node-requires-clause-room
push_node-requires-clause-room c =
    next-has_room c.self.inside.nodes.keys c.loop-node.table c.loop-node.node-iterator c.next.new.self c.in-Some.node c.self.invariant.table
    (c.loop-node.invariant ∙ sym c.self.view_is) c.in-Some.ensures.steps

pub loop-node-preserved : goal.loop-node-preserved
loop-node-preserved c =
    next-done c.self.inside.nodes.keys c.loop-node.table c.loop-node.node-iterator c.next.new.self c.in-Some.node c.self.invariant.table
    (c.loop-node.invariant ∙ sym c.self.view_is) c.in-Some.ensures.steps c.push_node.new.self c.in_ok-push_node.ensures.pushed
    ∙ c.self.view_is

pub returns-clause-nodes : goal.returns-clause-nodes
returns-clause-nodes c = sym (append-nil c.loop-node.table)
    ∙ ap (λ (ns : List Node). c.loop-node.table ++ ns) (sym c.in-None.ensures.steps.0) ∙ c.loop-node.invariant

pub returns-clause-compiled : goal.returns-clause-compiled
returns-clause-compiled c = subst IsCompiled
    (c.self.view_is ∙ sym c.loop-node.invariant ∙ ap (λ (ns : List Node). c.loop-node.table ++ ns) c.in-None.ensures.steps.0
    ∙ append-nil c.loop-node.table) c.self.invariant
