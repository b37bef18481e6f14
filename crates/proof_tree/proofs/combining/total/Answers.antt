use Rattle.std.proofs.Common.{◌∙◌}
use Rattle.proof_tree.specs.Combining.{sought}
use Rattle.proof_tree.proofs.Combined.{total-step}
use Rattle.proof_tree.proofs.combining.total.Goals as goal

pub loop-child-preserved : goal.loop-child-preserved
loop-child-preserved c =
    let step = total-step (sought c.args.kind) c.args.children.now c.loop-child.child-index c.loop-child.sum c.sought-number.result _
    c.loop-child-test.true c.sought-number.ensures.sought c.if-number.false c.loop-child.invariant.fits in
    record { fits = step.0; so_far = c.loop-child.invariant.so_far ∙ step.1 }
