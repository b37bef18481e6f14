use Rattle.defence_finder.proofs.Gathering.{told-bad, told-good, told-spent}
use Rattle.defence_finder.proofs.finder.defences.Goals as goal

pub returns-clause-good : goal.returns-clause-good
returns-clause-good g c =
    told-good g.R.Rule.KIND c.args.depth c.args.budget (g.V.Seen.position c.args.view.now) _ c.judge_all.result c.judge_all.ensures.told

pub returns-clause-bad : goal.returns-clause-bad
returns-clause-bad g c =
    told-bad g.R.Rule.KIND c.args.depth c.args.budget (g.V.Seen.position c.args.view.now) _ c.judge_all.result c.judge_all.ensures.told

pub returns-clause-spent : goal.returns-clause-spent
returns-clause-spent g c =
    told-spent g.R.Rule.KIND c.args.depth c.args.budget (g.V.Seen.position c.args.view.now) _ c.judge_all.result c.judge_all.ensures.told
