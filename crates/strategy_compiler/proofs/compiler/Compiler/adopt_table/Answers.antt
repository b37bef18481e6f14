-- One node more at each step; at the end all of them.
use Rattle.std.proofs.Common.{◌≡◌, ◌∙◌, ◌++◌, ◌∷◌, [], ℕ, List, ap, refl, sym, subst, true, length, slice_index, arith, rules}
use Rattle.std.proofs.lemmas.Grind.{common_steps}
use Rattle.strategy_graph.specs.Lent.{lent_node}
use Rattle.strategy_graph.proofs.Common.{answers_of, names_below, renumbered_node}
use Rattle.strategy_graph.proofs.Filling.{IsTable-lower}
use Rattle.strategy_compiler.proofs.Adopted.{adopt-node, adopt-full, adopted-more, adopted-none, adopted-leaves, adopted-numbers, adopted-few}
use Rattle.strategy_compiler.proofs.compiler.Compiler.adopt_table.Goals as goal

pub loop-i-init : goal.loop-i-init
loop-i-init c = adopted-none _ _ _ _ c.len.ensures.compiled refl c.new-numbers.ensures.items

pub returns-in_default-clause-adopts : goal.returns-in_default-clause-adopts
returns-in_default-clause-adopts c =
    adopted-leaves _ _ _ _ _ c.loop-i.invariant (omega (arith, c.loop-i-test.true, c.len-i-end.ensures.count)) _ refl

pub renumbered-requires : goal.renumbered-requires
renumbered-requires c =
    let n = lent_node c.node.result in
    let count : c.loop-i.i ≡ length c.as_slice.result.now = sym (ap length c.as_slice.ensures.value ∙ c.loop-i.invariant.count) in
    record {
      below = subst (λ k. names_below (answers_of n) k ≡ true) count (c.node.ensures.table.nodes c.loop-i.i n c.node.ensures.node).below;
    }

pub adopt-requires : goal.adopt-requires
adopt-requires c = record {
  node =
      adopt-node _ _ _ _ _ (lent_node c.node.result) c.in-Ok.node c.loop-i.invariant c.node.ensures.table c.node.ensures.node
      (c.in-Ok.ensures.node ∙ ap (λ (xs : List ℕ). renumbered_node (λ j. slice_index xs j) (lent_node c.node.result)) c.as_slice.ensures.value);
}

pub returns-in_err-number-clause-full : goal.returns-in_err-number-clause-full
returns-in_err-number-clause-full c = λ full.
    let why = c.in_err-number.ensures.full.0 (search (rules, c.from_residual.ensures.1, full)) in
    adopt-full _ _ _ _ _ (lent_node c.node.result) c.in-Ok.node c.loop-i.invariant c.node.ensures.table c.node.ensures.node
    (c.in-Ok.ensures.node ∙ ap (λ (xs : List ℕ). renumbered_node (λ j. slice_index xs j) (lent_node c.node.result)) c.as_slice.ensures.value)
    why.0 why.1

pub returns-in_err-number-clause-adopts : goal.returns-in_err-number-clause-adopts
returns-in_err-number-clause-adopts c = adopted-leaves _ _ _ _ _ c.loop-i.invariant
    (omega (arith, c.loop-i-test.true, c.len-i-end.ensures.count)) _ c.in_err-number.ensures.unchanged

pub returns-then-is_err-clause-adopts : goal.returns-then-is_err-clause-adopts
returns-then-is_err-clause-adopts c =
    adopted-leaves _ _ _ _ _
    (adopted-more _ _ _ _ _ (lent_node c.node.result) c.in-Ok.node c.loop-i.invariant c.node.ensures.table c.node.ensures.node
    (c.in-Ok.ensures.node ∙ ap (λ (xs : List ℕ). renumbered_node (λ j. slice_index xs j) (lent_node c.node.result)) c.as_slice.ensures.value)
    _ (c.loop-i.numbers.items ++ c.in_ok-number.number ∷ []) refl _
    c.in_ok-number.ensures.put_in c.in_ok-number.ensures.node c.in_ok-number.ensures.compiled)
    (omega (arith, c.loop-i-test.true, c.len-i-end.ensures.count)) _ refl

pub loop-i-preserved : goal.loop-i-preserved
loop-i-preserved c =
    let pushed : c.push.new.self.items ≡ c.loop-i.numbers.items ++ c.in_ok-number.number ∷ [] =
    first_of (search rules, grind (arith, common_steps)) in
    adopted-more _ _ _ _ _ (lent_node c.node.result) c.in-Ok.node c.loop-i.invariant c.node.ensures.table c.node.ensures.node
    (c.in-Ok.ensures.node ∙ ap (λ (xs : List ℕ). renumbered_node (λ j. slice_index xs j) (lent_node c.node.result)) c.as_slice.ensures.value)
    _ _ pushed _ c.in_ok-number.ensures.put_in c.in_ok-number.ensures.node c.in_ok-number.ensures.compiled

pub returns-clause-numbers : goal.returns-clause-numbers
returns-clause-numbers c = adopted-numbers _ _ _ _ _ c.loop-i.invariant
    (omega (arith, c.loop-i.auto.i-end, c.len-i-end.ensures.count)) (omega (arith, c.loop-i-test.false, c.len-i-end.ensures.count))

pub returns-clause-few : goal.returns-clause-few
returns-clause-few c = λ more. absurd (adopted-few _ _ _ _ c.len-i-end.ensures.table (IsTable-lower _ c.len.ensures.compiled.table)
    (adopted-leaves _ _ _ _ _ c.loop-i.invariant (omega (arith, c.loop-i.auto.i-end, c.len-i-end.ensures.count)) _ refl)
    (adopted-numbers _ _ _ _ _ c.loop-i.invariant (omega (arith, c.loop-i.auto.i-end, c.len-i-end.ensures.count))
    (omega (arith, c.loop-i-test.false, c.len-i-end.ensures.count))) more)

pub returns-clause-adopts : goal.returns-clause-adopts
returns-clause-adopts c = adopted-leaves _ _ _ _ _ c.loop-i.invariant (omega (arith, c.loop-i.auto.i-end, c.len-i-end.ensures.count)) _ refl
