use Rattle.std.proofs.Common.{◌∙◌, sym}
use Rattle.defence_finder.proofs.Settling.{first-stays, second-stays}
use Rattle.defence_finder.proofs.finder.five_left.Goals as goal

pub returns-then-is : goal.returns-then-is
returns-then-is c = record {
  left = λ rule b lawful on are.
      second-stays rule b c.args.q lawful on c.args.fives.now c.in_ok-first.others.now c.in_ok-first.first.now
      c.in_ok-first.ensures.cases.0 are
      c.copied.result (c.copied.ensures ∙ c.first.ensures.value) (sym c.is.ensures.same ∙ c.if-is.true);
}

pub returns-else-is : goal.returns-else-is
returns-else-is c = record {
  left = λ rule b lawful on are.
      first-stays rule b c.args.q lawful on c.args.fives.now c.in_ok-first.others.now c.in_ok-first.first.now
      c.in_ok-first.ensures.cases.0 are
      (sym c.is.ensures.same ∙ c.if-is.false);
}
