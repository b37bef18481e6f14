use Rattle.std.proofs.Common.{◌≡◌, ◌∙◌, ◌<◌, ap, arith, Bool, false, get_or, length, List, refl, subst, sym, ℕ}
use Rattle.proof_tree.proofs.Common.{IsTree, Tree, is_settled, leaf_link, link_at, no_numbers, numbers_at}
use Rattle.proof_tree.specs.declared.Kind.TheVariants.{Attack}
use Rattle.proof_tree.specs.declared.Numbers.{Numbers}
use Rattle.proof_tree.proofs.OpenWays.{IsSoFar, so-far-alive, so-far-next}
use Rattle.proof_tree.proofs.Walks.{read-at}
use Rattle.proof_tree.proofs.tree.ProofTree.is_alive.Goals as goal

-- a node whose numbers are read and are not those of one that is settled
open-there : (t : Tree) (i : ℕ) (numbers : List Numbers) (n : Numbers) (settled : Bool) → IsTree t → numbers ≡ t.numbers
    → i < length t.links
    → n ≡ get_or numbers i n → settled ≡ is_settled n → settled ≡ false → is_settled (numbers_at t.numbers i) ≡ false
open-there t i numbers n settled tree same inside read is unsettled =
    ap (λ v. is_settled (numbers_at v i)) (sym same)
    ∙ ap is_settled (read-at numbers i no_numbers n (omega (arith, ap length same, tree.numbered.count, inside)) read) ∙ sym is ∙ unsettled

pub returns-then-number-eq0 : goal.returns-then-number-eq0
returns-then-number-eq0 c =
    let t : Tree = c.args.self.now in
    let tree : IsTree t = subst IsTree c.self.view_is c.self.invariant in
    let here = open-there t c.loop-self.number c.self.inside.numbers.items c.index.result.now c.is_settled.result tree
    (ap (λ v. v.numbers) c.self.view_is) c.loop-self.invariant.inside c.index.ensures c.is_settled.ensures.settled
    c.loop-self-test.true in
    let root : (i : ℕ) → i ≡ 0 → IsSoFar t c.args.start i → IsSoFar t c.args.start 0 = λ i is far. rw is at far in
    record {
      alive = (
        λ yes. so-far-alive t tree c.args.start (root c.loop-self.number c.if-number-eq0.true c.loop-self.invariant)
            (ap (λ i. is_settled (numbers_at t.numbers i)) (sym c.if-number-eq0.true) ∙ here),
        λ alive. refl,
      );
    }

pub loop-self-preserved : goal.loop-self-preserved
loop-self-preserved c =
    let t : Tree = c.args.self.now in
    let tree : IsTree t = subst IsTree c.self.view_is c.self.invariant in
    let links : c.self.inside.links.items ≡ t.links = ap (λ v. v.links) c.self.view_is in
    let here = open-there t c.loop-self.number c.self.inside.numbers.items c.index.result.now c.is_settled.result tree
    (ap (λ v. v.numbers) c.self.view_is) c.loop-self.invariant.inside c.index.ensures c.is_settled.ensures.settled
    c.loop-self-test.true in
    let own : link_at t.links c.loop-self.number ≡ c.index-in-loop-self.result.now =
    ap (λ v. link_at v c.loop-self.number) (sym links)
    ∙ read-at c.self.inside.links.items c.loop-self.number (leaf_link Attack 0) c.index-in-loop-self.result.now
    (omega (arith, ap length links, c.loop-self.invariant.inside)) c.index-in-loop-self.ensures in
    subst (IsSoFar t c.args.start) (ap (λ l. l.parent) own)
    (so-far-next t tree c.args.start c.loop-self.number c.loop-self.invariant (let some = c.if-number-eq0.false in omega (arith, some))
    here)
