use Rattle.std.proofs.Common.{subst, sym}
use Rattle.proof_tree.proofs.OpenWays.{way-open}
use Rattle.proof_number.proofs.Common.{IsAlive}
use Rattle.proof_number.proofs.StepLaws.{ended-aim, later-step, over-any, searched-tree, step-then}
use Rattle.proof_number.proofs.search.Search.step.Goals as goal

pub go_on-there-requires-clause-leaf : goal.go_on-there-requires-clause-leaf
go_on-there-requires-clause-leaf g c = record {
  alive = subst (IsAlive c.args.tree.now) (sym c.most_proving-leaf.ensures.leaf)
      (way-open c.args.tree.now (searched-tree c.requires.searching) c.requires.open);
  in_tree = c.most_proving-leaf.ensures.in_tree;
  childless = c.most_proving-leaf.ensures.childless;
}

pub returns-in-Ok-Done-clause-step : goal.returns-in-Ok-Done-clause-step
returns-in-Ok-Done-clause-step g c =
    let there = c.go_on-there.ensures.there in
    later-step there.aim there.links there.closed tt (rw c.in-Ok-Done.field-0-is at c.in-Ok-Done.ensures.step)

pub returns-in-Ok-Spent-clause-step : goal.returns-in-Ok-Spent-clause-step
returns-in-Ok-Spent-clause-step g c =
    let there = c.go_on-there.ensures.there in
    later-step there.aim there.links there.closed (over-any c.try_most_proving.result (ended-aim there.aim))
    (step-then c.in-Ok-Spent.ensures.step c.in-Ok-Spent.field-0-is c.try_most_proving.ensures.step)

pub returns-in-Err-clause-step : goal.returns-in-Err-clause-step
returns-in-Err-clause-step g c =
    let there = c.go_on-there.ensures.there in
    later-step there.aim there.links there.closed tt c.in-Err.ensures.step
