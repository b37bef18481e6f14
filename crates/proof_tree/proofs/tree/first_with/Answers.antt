use Rattle.std.proofs.Common.{length, sym, ◌∙◌, arith, nat_eq}
use Rattle.std.proofs.lemmas.Bool.{eq-eqb, ne_eqb}
use Rattle.std.proofs.lemmas.List.Sums.{position_or_len_is}
use Rattle.proof_tree.specs.Combining.{no_numbers, sought}
use Rattle.proof_tree.proofs.tree.first_with.Goals as goal

pub returns-then-sought-least : goal.returns-then-sought-least
returns-then-sought-least c = record {
  place = sym (position_or_len_is (λ n. nat_eq (sought c.args.kind n) c.args.least) c.args.children.now c.loop-i.i no_numbers (omega arith)
      (λ k h. ne_eqb _ _ (c.loop-i.invariant k h))
      (λ h. eq-eqb _ _ (sym c.sought.ensures.sought ∙ c.if-sought-least.true)));
}

pub returns : goal.returns
returns c = record {
  place = sym (position_or_len_is (λ n. nat_eq (sought c.args.kind n) c.args.least) c.args.children.now (length c.args.children.now)
      no_numbers (omega arith)
      (λ k h. ne_eqb _ _ (c.loop-i.invariant k (omega arith)))
      (λ h. absurd (omega arith)));
}
