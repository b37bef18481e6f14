-- What the verdict says, by what the walk found.
use Rattle.std.proofs.lemmas.Result.{IfOk-weaker}
use Rattle.strategy_graph.specs.declared.roots.Root.TheVariants.{Attack}
use Rattle.strategy_checker.proofs.Refusals.{end-right, verdict-right}
use Rattle.strategy_checker.proofs.checks.check.Goals as goal

pub returns : goal.returns
returns g c =
    let checked = end-right g.R.Rule.KIND c.args.table.now (Attack c.args.root) c.args.position.now c.args.work c.new-walk.result
    c.visit_node-walked.new.self c.visit_node-walked.result c.counted.result c.new-walk.ensures.left c.visit_node-walked.ensures.walked
    c.counted.ensures.end in
    let right = IfOk-weaker c.verdict.result _ _ (λ v is. verdict-right g.R.Rule.KIND c.args.table.now (Attack c.args.root)
    c.args.position.now c.args.work c.in_ok-moves.moves c.counted.result v c.in_ok-moves.ensures.depth checked is)
    c.verdict.ensures.verdict in
    record {
      accepted = IfOk-weaker c.verdict.result _ _ (λ v r. r.accepts) right;
      moves = IfOk-weaker c.verdict.result _ _ (λ v r. r.moves) right;
      arrivals = IfOk-weaker c.verdict.result _ _ (λ v r. r.arrivals) right;
      wins = IfOk-weaker c.verdict.result _ _ (λ v r. r.wins) right;
      refused = IfOk-weaker c.verdict.result _ _ (λ v r. r.refuses) right;
      leads = IfOk-weaker c.verdict.result _ _ (λ v r. r.leads) right;
      spent = IfOk-weaker c.verdict.result _ _ (λ v r. r.spends) right;
      same = c.visit_node-walked.ensures.same;
    }
