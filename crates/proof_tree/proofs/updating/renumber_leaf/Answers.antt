use Rattle.std.proofs.Common.{◌≡◌, ◌<◌, ℕ, set, refl, sym, ◌∙◌, subst, arith}
use Rattle.std.proofs.lemmas.List.{get_or-set_same}
use Rattle.proof_tree.specs.declared.TheConstants.{INFINITE}
use Rattle.proof_tree.specs.declared.Kind.{Kind}
use Rattle.proof_tree.proofs.Common.{no_numbers, IsNumbered, leaf_sum, link_at}
use Rattle.proof_tree.proofs.Updated.{IsRightBut, others-written}
use Rattle.proof_tree.proofs.Changed.{above-parent, not-above, renumbered-leaf, renumbered-root}
use Rattle.proof_tree.proofs.updating.renumber_leaf.Goals as goal
use Rattle.proof_tree.proofs.updating.renumber_leaf.Goals.{Else-leaf-eq0}

pub returns-then-leaf-eq0-clause-numbered : goal.returns-then-leaf-eq0-clause-numbered
returns-then-leaf-eq0-clause-numbered c =
    let P : ℕ → Type 0 = λ i. IsNumbered c.args.links.now (set c.args.numbers.now i c.args.found) in
    let Q : ℕ → Type 0 = λ i. (link_at c.args.links.now i).count ≡ 0 in
    subst P (sym c.if-leaf-eq0.true)
    (renumbered-root c.args.links.now c.args.numbers.now c.args.found c.requires.linked c.requires.numbered
    (subst Q c.if-leaf-eq0.true c.requires.childless) c.requires.found
    (subst (λ (i : ℕ). (kind : Kind) → leaf_sum kind c.args.links.now (set c.args.numbers.now i c.args.found) < INFINITE) c.if-leaf-eq0.true
    c.requires.sums))

pub returns-then-leaf-eq0-clause-others : goal.returns-then-leaf-eq0-clause-others
returns-then-leaf-eq0-clause-others c = others-written c.args.links.now c.args.leaf c.args.leaf c.args.numbers.now c.args.numbers.now
    c.args.found (0, refl) (λ j h. refl)

-- the numbers above the leaf alone are left
right : (c : Else-leaf-eq0) → IsRightBut c.args.links.now (set c.args.numbers.now c.args.leaf c.args.found)
    (link_at c.args.links.now c.args.leaf).parent
right c = renumbered-leaf c.args.links.now c.args.numbers.now c.args.leaf c.args.found c.requires.linked c.requires.numbered
    (omega (arith, c.if-leaf-eq0.false)) c.requires.leaf c.requires.childless c.requires.found c.requires.sums

pub update_from-requires-clause-each : goal.update_from-requires-clause-each
update_from-requires-clause-each c = (right (goal.at.update_from-requires-clause-each c).Else-leaf-eq0).each

pub update_from-requires-clause-right : goal.update_from-requires-clause-right
update_from-requires-clause-right c = λ i h n b. (right (goal.at.update_from-requires-clause-right c).Else-leaf-eq0).combined_at i h n b

pub update_from-requires-clause-sums : goal.update_from-requires-clause-sums
update_from-requires-clause-sums c = (right (goal.at.update_from-requires-clause-sums c).Else-leaf-eq0).sums

pub returns-clause-found : goal.returns-clause-found
returns-clause-found c =
    let some : 0 < c.args.leaf = omega (arith, c.if-leaf-eq0.false) in
    c.update_from.ensures.others c.args.leaf (not-above c.args.links.now c.args.leaf c.requires.linked some c.requires.leaf)
    ∙ get_or-set_same c.args.numbers.now c.args.leaf c.args.found no_numbers (omega (arith, c.requires.leaf, c.requires.numbered.count))

pub returns-clause-others : goal.returns-clause-others
returns-clause-others c = λ j h.
    c.update_from.ensures.others j (λ on. h (above-parent c.args.links.now c.args.leaf j on))
    ∙ others-written c.args.links.now c.args.leaf c.args.leaf c.args.numbers.now c.args.numbers.now c.args.found (0, refl) (λ k m. refl) j
    h
