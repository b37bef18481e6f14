use Rattle.std.proofs.Common.{Option}
use Rattle.game_rules.specs.declared.Point.{Point}
use Rattle.defence_finder.specs.Finding.{IsWalked}
use Rattle.defence_finder.proofs.Gathering.{all-told}
use Rattle.defence_finder.proofs.finder.judge_all.Goals as goal

pub returns-clause-told : goal.returns-clause-told
returns-clause-told g c =
    let P : Option Point → Type 0 = IsWalked g.R.Rule.KIND c.args.question.now.depth c.args.question.now.budget
    (g.V.Seen.position c.args.view.now) c.walk.new.compiler c.walk.new.found in
    all-told g.R.Rule.KIND c.args.question.now.depth c.args.question.now.budget (g.V.Seen.position c.args.view.now) c.walk.new.compiler
    c.walk.new.found.good c.walk.new.found.bad (rw c.in-None.is at c.in_ok-at.ensures.walked)
