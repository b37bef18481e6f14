-- File by file.
use Rattle.std.proofs.Common.{subst, arith}
use Rattle.join_command.specs.Asking.{IsZoneTold}
use Rattle.join_command.proofs.Asking.{zone-below}
use Rattle.join_command.proofs.answering.first_zone.Goals as goal

pub loop-k-preserved : goal.loop-k-preserved
loop-k-preserved g c = zone-below g.R.Rule.KIND c.args.files.now c.args.position.now c.args.from c.loop-k.k c.index-files-k.result
    (let inside = c.requires.inside in omega (arith, c.loop-k-test.true, inside)) c.index-files-k.is c.loop-k.invariant
    (subst (IsZoneTold g.R.Rule.KIND c.args.position.now c.index-files-k.result) c.if-branch.false c.in_ok-has_zone.ensures.zone)
