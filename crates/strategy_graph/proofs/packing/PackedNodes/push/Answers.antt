use Rattle.std.proofs.Common.{◌≡◌, ◌∙◌, ◌++◌, ap, not, true, is_ok, arith, rules}
use Rattle.strategy_graph.proofs.PackedLists.{ends-push, nodes-push}
use Rattle.strategy_graph.proofs.packing.PackedNodes.push.Goals as goal

pub invariant_of-self-else-is_err-2 : goal.invariant_of-self-else-is_err-2
invariant_of-self-else-is_err-2 c =
    let extended : c.extend.new.all.items ≡ c.self.inside.replies.items ++ c.args.node.replies.now = search rules in
    let added : is_ok c.push.result ≡ true = c.is_err-2.ensures.negation ∙ ap not c.if-is_err-2.false in
    rw (extended, c.push.ensures.items, added)
    (ends-push 0 c.self.inside.nodes.items _ c.self.inside.replies.items c.args.node.replies.now c.self.invariant (omega arith))

pub returns-clause-pushed : goal.returns-clause-pushed
returns-clause-pushed c =
    let extended : c.extend.new.all.items ≡ c.self.inside.replies.items ++ c.args.node.replies.now = search rules in
    let added : is_ok c.push.result ≡ true = c.is_err-2.ensures.negation ∙ ap not c.if-is_err-2.false in
    rw (extended, c.push.ensures.items, added, ← c.self.view_is)
    (nodes-push 0 c.self.inside.nodes.items _ c.self.inside.replies.items c.args.node.replies.now c.self.invariant (omega arith))
