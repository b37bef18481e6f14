use Rattle.std.proofs.Common.{sym, ap, ◌∙◌, arith}
use Rattle.zone_checker.specs.Marks.{spare_of}
use Rattle.zone_checker.proofs.Marking.{full-there, full-nowhere}
use Rattle.zone_checker.proofs.marks.is_full.Goals as goal

pub returns-then-spare-eq0 : goal.returns-then-spare-eq0
returns-then-spare-eq0 c = record {
  full = sym (full-there c.args.board.now c.args.marks.now c.args.axis c.args.q c.loop-k.k c.in-Some.p c.loop-k-test.true
      (sym c.along.ensures.along ∙ c.in-Some.is)
      (ap (spare_of c.args.axis) (sym c.mark_at.ensures.mark) ∙ sym c.spare.ensures.spare ∙ c.if-spare-eq0.true));
}

pub returns : goal.returns
returns c = record {
  full = sym (full-nowhere c.args.board.now c.args.marks.now c.args.axis c.args.q (λ k l. c.loop-k.invariant.none k (omega arith)));
}
