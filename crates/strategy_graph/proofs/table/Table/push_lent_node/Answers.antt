use Rattle.std.proofs.Common.{◌≡◌, ◌<◌, ◌++◌, ◌∷◌, [], true, List, not, length, map, refl, sym, subst, ap, ◌∙◌, arith, is_ok, slice_index}
use Rattle.std.proofs.Common.{rules}
use Rattle.strategy_graph.proofs.Common.{Node, MAX_NODES, lent_node, IsNode, answers_of, greatest, named}
use Rattle.strategy_graph.proofs.Filling.{IsTableWithDepths-push, greatest-le, greatest-read}
use Rattle.strategy_graph.proofs.table.Table.push_lent_node.Goals as goal

pub overflow_add-below : goal.overflow_add-below
overflow_add-below c =
    let n = lent_node c.args.node in
    let node = subst (λ (t : List Node). IsNode n (length t)) (sym c.self.view_is) c.requires.node in
    let value : c.deepest-below.result ≡ greatest (map (λ j. slice_index c.self.inside.depths.items j) (named (answers_of n))) =
    greatest-read c.self.inside.depths.items c.as_slice.result.now (answers_of n) n.replies n.rest c.deepest-below.result
    c.as_slice.ensures.value refl refl c.deepest-below.ensures.greatest in
    let low = greatest-le c.self.inside.nodes c.self.inside.depths.items c.self.invariant.counted (answers_of n) node.below in
    omega (arith, value, low, c.self.invariant.table.size)

pub invariant_of-self-else-is_err-2 : goal.invariant_of-self-else-is_err-2
invariant_of-self-else-is_err-2 c =
    let n = lent_node c.args.node in
    let counted : is_ok c.push.result ≡ true = c.is_err.ensures.negation ∙ ap not c.if-is_err.false in
    let pushed : c.push-2.new.self ≡ c.self.inside.nodes ++ n ∷ [] = search rules in
    rw (pushed, c.push.ensures.items, counted)
    (IsTableWithDepths-push c.self.inside.nodes c.self.inside.depths.items n c.deepest-below.result c.self.invariant
    (subst (λ (t : List Node). IsNode n (length t)) (sym c.self.view_is) c.requires.node)
    (subst (λ (t : List Node). length t < MAX_NODES) (sym c.self.view_is) c.requires.room)
    (greatest-read c.self.inside.depths.items c.as_slice.result.now (answers_of n) n.replies n.rest c.deepest-below.result
    c.as_slice.ensures.value refl refl c.deepest-below.ensures.greatest))
