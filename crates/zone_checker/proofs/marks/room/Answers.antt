use Rattle.std.proofs.Common.{◌≡◌, ◌+◌, sym, ap, subst, ◌∙◌, arith}
use Rattle.zone_checker.proofs.Common.{holds, other, Side}
use Rattle.zone_checker.proofs.Marking.{Counted, mark, counted-more, room-off, room-held, room-clear, room-none}
use Rattle.zone_checker.proofs.marks.room.Goals.{then-holds-2, else-holds-2}
use Rattle.zone_checker.proofs.marks.room.Goals as goal

pub returns-in_default : goal.returns-in_default
returns-in_default c = record {
  room = sym (room-off c.args.board.now c.args.side c.args.axis c.args.p c.loop-k.k c.loop-k-test.true
      (sym c.along.ensures.along ∙ c.in_default.is));
}

pub returns-then-holds : goal.returns-then-holds
returns-then-holds c = record {
  room = sym (room-held c.args.board.now c.args.side c.args.axis c.args.p c.loop-k.k c.in-Some.q c.loop-k-test.true
      (sym c.along.ensures.along ∙ c.in-Some.is) (sym c.holds.ensures.holds ∙ c.if-holds.true));
}

pub loop-k-preserved : goal.loop-k-preserved
loop-k-preserved c =
    let there = sym c.along.ensures.along ∙ c.in-Some.is in
    let clear = sym c.holds.ensures.holds ∙ c.if-holds.false in
    let theirs : holds c.args.board.now (other c.args.side) c.in-Some.q ≡ c.holds-in-loop-k.result =
    ap (λ (t : Side). holds c.args.board.now t c.in-Some.q) (sym c.other.ensures.other) ∙ sym c.holds-in-loop-k.ensures.holds in
    elim c.if-holds-2.branch [
      | then-holds-2 w ↦ record {
        few = let few = c.loop-k.invariant.few in let is = w.stones-is in omega (arith, few, is);
        counted = counted-more c.args.board.now c.args.side c.args.axis c.args.p c.loop-k.k c.loop-k.stones c.if-holds-2.stones
            c.in-Some.q c.loop-k.invariant.counted there clear
            (ap (λ r. c.loop-k.stones + mark r) (theirs ∙ w.if-holds-2.true) ∙ sym w.stones-is);
      }
      | else-holds-2 w ↦ record {
        few = let few = c.loop-k.invariant.few in let is = w.stones-is in omega (arith, few, is);
        counted = counted-more c.args.board.now c.args.side c.args.axis c.args.p c.loop-k.k c.loop-k.stones c.if-holds-2.stones
            c.in-Some.q c.loop-k.invariant.counted there clear
            (ap (λ r. c.loop-k.stones + mark r) (theirs ∙ w.if-holds-2.false) ∙ (let is = w.stones-is in omega (arith, is)));
      }
    ]

pub returns-then-stones-le3 : goal.returns-then-stones-le3
returns-then-stones-le3 c =
    let five : c.loop-k.k ≡ 5 = omega arith in
    let counted = subst (λ k. Counted c.args.board.now c.args.side c.args.axis c.args.p k c.loop-k.stones) five
    c.loop-k.invariant.counted in
    record { room = sym (room-clear c.args.board.now c.args.side c.args.axis c.args.p c.loop-k.stones counted c.if-stones-le3.true) }

pub returns-else-stones-le3 : goal.returns-else-stones-le3
returns-else-stones-le3 c =
    let five : c.loop-k.k ≡ 5 = omega arith in
    let counted = subst (λ k. Counted c.args.board.now c.args.side c.args.axis c.args.p k c.loop-k.stones) five
    c.loop-k.invariant.counted in
    record { room = sym (room-none c.args.board.now c.args.side c.args.axis c.args.p c.loop-k.stones counted c.if-stones-le3.false) }
