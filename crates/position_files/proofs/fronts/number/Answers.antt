use Rattle.std.proofs.Common.{◌≡◌, arith}
use Rattle.position_files.proofs.FrontLaws.{front_more}
use Rattle.position_files.proofs.fronts.number.Goals as goal

pub loop-last-preserved : goal.loop-last-preserved
loop-last-preserved c =
    let same : c.from.result ≡ c.in-Some.last = omega (arith, c.from.ensures) in
    record {
      some = omega (arith, c.loop-last.invariant.some);
      text = rw same (front_more c.args.bytes.now c.loop-last.rest.now c.in-Some.more.now c.loop-last.number c.in-Some.last
          c.loop-last.invariant.some (omega arith) c.in-Some.ensures.digit c.loop-last.invariant.text c.in-Some.ensures.text);
    }
