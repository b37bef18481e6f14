-- What the walk shows of the root, at the board of the position.
use Rattle.std.proofs.Common.{subst}
use Rattle.strategy_checker.proofs.Common.{Grid, IsChecked}
use Rattle.strategy_checker.proofs.Refusals.{end-right}
use Rattle.strategy_checker.proofs.checks.check_under.Goals as goal

pub returns : goal.returns
returns g c = record {
  checked = subst (λ (b : Grid). IsChecked g.R.Rule.KIND c.args.table.now c.args.root.now b c.args.work c.counted.result)
      c.new-position.ensures.position
      (end-right g.R.Rule.KIND c.args.table.now c.args.root.now c.new-position.result c.args.work c.new-walk.result
      c.visit_root-walked.new.self c.visit_root-walked.result c.counted.result c.new-walk.ensures.left
      c.visit_root-walked.ensures.walked c.counted.ensures.end);
}
