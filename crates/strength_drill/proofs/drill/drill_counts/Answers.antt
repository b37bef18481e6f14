use Rattle.std.proofs.Common.{◌≡◌, arith}
use Rattle.strength_drill.specs.declared.TheConstants.{POSITIONS}
use Rattle.strength_drill.specs.Counts.{IsCounted}
use Rattle.strength_drill.proofs.DrillCounts.{counts-none, counts-more, only-counts}
use Rattle.strength_drill.proofs.drill.drill_counts.Goals as goal

pub loop-i-init : goal.loop-i-init
loop-i-init c = record {
  counted = counts-none c.args.number c.from.result c.from.ensures;
  within = record {
    wins = omega arith;
    none = omega arith;
    spent = omega arith;
    accepted = omega arith;
    games = omega arith;
    moves = omega arith;
  };
}

pub loop-i-preserved : goal.loop-i-preserved
loop-i-preserved c =
    let is = rw c.rule_at.ensures.rule at c.in_ok-share.ensures.share in
    record {
      counted = counts-more c.args.number c.loop-i.i c.loop-i.counts c.in_ok-share.share c.add.new.self c.loop-i.draws.number
          c.share.new.draws.number c.loop-i.invariant.counted is c.add.ensures.together;
      within = c.add.ensures.within;
    }

pub returns : goal.returns
returns c =
    let most = c.loop-i.auto.i-end in
    let least = c.loop-i-test.false in
    let end : c.loop-i.i ≡ POSITIONS = omega (arith, most, least) in
    let counted : IsCounted c.args.number c.loop-i.counts = (c.loop-i.draws.number, rw end at c.loop-i.invariant.counted) in
    record { counted = counted; only = only-counts c.args.number c.loop-i.counts counted }
