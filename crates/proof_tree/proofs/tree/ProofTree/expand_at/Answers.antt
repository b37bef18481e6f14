use Rattle.std.proofs.Common.{rules, ◌≡◌, ◌+◌, List, ◌++◌, take, drop, length, refl, sym, ◌∙◌, ap, subst, arith}
use Rattle.proof_tree.specs.Trees.{IsTree, Tree, numbers_at}
use Rattle.proof_tree.specs.declared.Numbers.{Numbers}
use Rattle.proof_tree.proofs.Changed.{IsExpanded, child-stays, expanded-by, others-moved, written-back}
use Rattle.proof_tree.proofs.tree.ProofTree.expand_at.Goals as goal
use Rattle.proof_tree.proofs.tree.ProofTree.expand_at.Goals.{After-as_mut_slice, After-update_from}

-- the tree before the numbers are brought up to date
grown : (c : After-as_mut_slice)
    → IsExpanded c.args.self.now c.args.children.now c.as_slice.result.now c.as_mut_slice.result.now c.args.leaf
grown c =
    let inside : Tree = record { links = c.self.inside.links.items; numbers = c.self.inside.numbers.items } in
    expanded-by c.args.self.now inside c.args.leaf c.len-len.result c.index-link.result.now c.other.result
    c.args.children.now c.add_leaves.new.links.items c.as_slice.result.now c.as_mut_slice.result.now c.self.view_is c.self.invariant
    c.requires.in_tree c.requires.childless c.requires.some c.requires.each c.requires.sums c.index-link.ensures
    (omega (arith, c.len-len.ensures)) c.other.ensures.other
    c.in_ok-add_leaves.ensures.links c.as_slice.ensures.value (c.as_mut_slice.ensures.value ∙ c.in_ok-add_leaves.ensures.numbers)

-- the numbers that are written back are those that `update_from` left
back : (c : After-update_from) → take c.add_leaves.new.numbers.len
    (c.update_from.new.numbers ++ drop (length c.update_from.new.numbers) c.add_leaves.new.numbers.items) ≡ c.update_from.new.numbers
back c = written-back c.add_leaves.new.numbers.len c.update_from.new.numbers c.add_leaves.new.numbers.items
    (omega (arith, c.as_mut_slice.ensures.len))

pub update_from-requires : goal.update_from-requires
update_from-requires c =
    let e = grown (goal.at.update_from-requires c).After-as_mut_slice in
    record {
      linked = e.linked;
      count = search rules;
      start = search rules;
      has_children = search rules;
      each = e.right.each;
      right = λ i h n b. e.right.combined_at i h n b;
      sums = e.right.sums;
    }

pub invariant_of-self-2 : goal.invariant_of-self-2
invariant_of-self-2 c =
    let e = grown (goal.at.invariant_of-self-2 c).After-as_mut_slice in
    rw (back (goal.at.invariant_of-self-2 c).After-update_from, ← c.as_slice.ensures.value)
    (record { linked = e.linked; numbered = c.update_from.ensures.numbered; short = omega (arith, e.sized, c.requires.short) })

pub returns : goal.returns
returns c =
    let t : Tree = c.args.self.now in
    let more : List Numbers = c.args.children.now in
    let e = grown (goal.at.returns c).After-as_mut_slice in
    let kept = back (goal.at.returns c).After-update_from in
    let whole : IsTree t = subst IsTree c.self.view_is c.self.invariant in
    record {
      number = search rules;
      links = sym c.as_slice.ensures.value ∙ e.links_are;
      others = others-moved c.as_slice.result.now _ c.args.leaf c.args.leaf c.as_mut_slice.result.now (t.numbers ++ more)
          c.update_from.new.numbers _ c.as_slice.ensures.value refl e.numbers_are (sym kept)
          c.update_from.ensures.others;
      children = λ j h. ap (λ v. numbers_at v (length t.links + j)) kept
          ∙ child-stays c.as_slice.result.now c.args.leaf (length t.links) j t.numbers more c.update_from.new.numbers e.linked
          c.requires.in_tree (omega (arith, e.sized)) whole.numbered.count
          (rw e.numbers_are at c.update_from.ensures.others);
      leaves = rw kept (search rules);
      unchanged = tt;
      tree = rw (kept, ← c.as_slice.ensures.value)
          (record { linked = e.linked; numbered = c.update_from.ensures.numbered; short = omega (arith, e.sized, c.requires.short) });
    }
