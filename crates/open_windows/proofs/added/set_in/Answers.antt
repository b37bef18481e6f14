use Rattle.std.proofs.Common.{◌≡◌, ◌+◌, nat_le, cond, ap, sym, ◌∙◌, arith}
use Rattle.std.specs.Int.{bit_at}
use Rattle.open_windows.proofs.Sums.{two-set, three-set, four-set}
use Rattle.open_windows.proofs.added.set_in.Goals as goal

pub returns-then-least-eq2 : goal.returns-then-least-eq2
returns-then-least-eq2 c = record {
  bits = λ x.
      let first = c.added-first.ensures.sum x in let second = c.added-ones.ensures.sum x in
      two-set c.added-ones.result.0 c.added-first.result.1 c.added-ones.result.1 x _ (omega (arith, first, second))
      ∙ ap (λ n. cond (nat_le n (bit_at c.args.a x + bit_at c.args.b x + bit_at c.args.c x + bit_at c.args.d x + bit_at c.args.e x)) 1 0)
      (sym c.if-least-eq2.true);
}

pub returns-then-least-eq3 : goal.returns-then-least-eq3
returns-then-least-eq3 c = record {
  bits = λ x.
      let first = c.added-first.ensures.sum x in let second = c.added-ones.ensures.sum x in
      three-set c.added-ones.result.0 c.added-first.result.1 c.added-ones.result.1 x _ (omega (arith, first, second))
      ∙ ap (λ n. cond (nat_le n (bit_at c.args.a x + bit_at c.args.b x + bit_at c.args.c x + bit_at c.args.d x + bit_at c.args.e x)) 1 0)
      (sym c.if-least-eq3.true);
}

pub returns : goal.returns
returns c = record {
  bits = λ x.
      let first = c.added-first.ensures.sum x in let second = c.added-ones.ensures.sum x in
      let low = c.requires.some in let high = c.requires.few in
      let not_two = c.if-least-eq2.false in let not_three = c.if-least-eq3.false in
      let four : 4 ≡ c.args.least = omega (arith, low, high, not_two, not_three) in
      four-set c.added-ones.result.0 c.added-first.result.1 c.added-ones.result.1 x _ (omega (arith, first, second))
      ∙ ap (λ n. cond (nat_le n (bit_at c.args.a x + bit_at c.args.b x + bit_at c.args.c x + bit_at c.args.d x + bit_at c.args.e x)) 1 0)
      four;
}
