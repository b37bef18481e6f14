use Rattle.std.proofs.Common.{◌≡◌, ◌+◌, ℕ, length, sym, ◌∙◌, ap, subst, arith}
use Rattle.proof_tree.proofs.Common.{no_numbers, IsTree, Tree, leaf_link, link_at, numbers_at}
use Rattle.proof_tree.specs.declared.Kind.TheVariants.{Attack}
use Rattle.proof_tree.proofs.Walks.{IsNext, LeadsOn-leaf, next-child, read-at}
use Rattle.proof_tree.proofs.tree.ProofTree.most_proving_below.Goals as goal
use Rattle.proof_tree.proofs.tree.ProofTree.most_proving_below.Goals.{After-first_with}

pub returns-then-link-eq0-clause-leaf : goal.returns-then-link-eq0-clause-leaf
returns-then-link-eq0-clause-leaf c =
    let t : Tree = c.args.self.now in
    let links : c.self.inside.links.items ≡ t.links = ap (λ v. v.links) c.self.view_is in
    let here : link_at t.links c.loop-self.number ≡ c.index-link.result.now =
    ap (λ v. link_at v c.loop-self.number) (sym links)
    ∙ read-at c.self.inside.links.items c.loop-self.number (leaf_link Attack 0) c.index-link.result.now
    (omega (arith, ap length links, c.loop-self.invariant.inside)) c.index-link.ensures in
    LeadsOn-leaf t c.args.start c.loop-self.number (ap (λ v. v.count) here ∙ c.if-link-eq0.true) c.loop-self.invariant.leads

-- the child that the walk goes on to
next : (c : After-first_with) → IsNext c.args.self.now c.args.start c.loop-self.number (c.index-link.result.now.first + c.first_with.result)
next c =
    let t : Tree = c.args.self.now in
    let i : ℕ = c.loop-self.number in
    let links : c.self.inside.links.items ≡ t.links = ap (λ v. v.links) c.self.view_is in
    let numbers : c.self.inside.numbers.items ≡ t.numbers = ap (λ v. v.numbers) c.self.view_is in
    let tree : IsTree t = subst IsTree c.self.view_is c.self.invariant in
    let here : link_at t.links i ≡ c.index-link.result.now =
    ap (λ v. link_at v i) (sym links) ∙ read-at c.self.inside.links.items i (leaf_link Attack 0) c.index-link.result.now
    (omega (arith, ap length links, c.loop-self.invariant.inside)) c.index-link.ensures in
    let own : numbers_at t.numbers i ≡ c.index.result.now =
    ap (λ v. numbers_at v i) (sym numbers) ∙ read-at c.self.inside.numbers.items i no_numbers c.index.result.now
    (omega (arith, ap length numbers, tree.numbered.count, c.loop-self.invariant.inside)) c.index.ensures in
    next-child t c.args.start i c.index-link.result.now c.sought-least.result c.index.result.now c.as_slice.result.now c.first_with.result
    tree
    c.loop-self.invariant.inside c.loop-self.invariant.open_node c.loop-self.invariant.leads here c.if-link-eq0.false own
    c.sought-least.ensures.sought (c.as_slice.ensures.value ∙ numbers) c.first_with.ensures.place

pub overflow_add-number : goal.overflow_add-number
overflow_add-number c =
    let tree : IsTree c.args.self.now = subst IsTree c.self.view_is c.self.invariant in
    omega (arith, (next (goal.at.overflow_add-number c).After-first_with).inside, tree.short)

pub overflow_cast-number-in-loop-self-2 : goal.overflow_cast-number-in-loop-self-2
overflow_cast-number-in-loop-self-2 c =
    let tree : IsTree c.args.self.now = subst IsTree c.self.view_is c.self.invariant in
    omega (arith, (next (goal.at.overflow_cast-number-in-loop-self-2 c).After-first_with).inside, tree.short)

pub loop-self-preserved : goal.loop-self-preserved
loop-self-preserved c =
    let on = next (goal.at.loop-self-preserved c).After-first_with in
    record { inside = on.inside; open_node = on.open_node; leads = on.leads }
