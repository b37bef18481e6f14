-- Each reply has its answer, and the answers win; or one is open.
use Rattle.std.proofs.Common.{◌∙◌, ap}
use Rattle.game_rules.proofs.Common.{after, goes_on, outcome}
use Rattle.strategy_graph.specs.Tables.{is_rising}
use Rattle.strategy_graph.proofs.Rising.{replies-rising}
use Rattle.join_command.proofs.Joined.{answers-all, answers-below, have-roots, joined-says, open-says}
use Rattle.join_command.proofs.joining.join_replies.Goals as goal

pub meet_each-requires-clause-roots : goal.meet_each-requires-clause-roots
meet_each-requires-clause-roots g c = rw (c.play.ensures.played, c.in_ok-later.ensures.copy)
    (have-roots c.args.position.now c.args.at c.args.nodes c.args.adopted.files.now c.args.adopted.roots.now c.requires.roots)

pub node_text-requires-clause-rising : goal.node_text-requires-clause-rising
node_text-requires-clause-rising g c =
    let met = rw (c.in-Each.is, c.play.ensures.played, c.in_ok-later.ensures.copy) at c.in_ok-answers.ensures.met in
    ap is_rising c.as_slice.ensures.value ∙ replies-rising (after c.args.position.now c.args.at)
    (λ q. goes_on (outcome g.R.Rule.KIND (after c.args.position.now c.args.at) q)) c.in-Each.answers.items met.points

pub node_text-requires-clause-below : goal.node_text-requires-clause-below
node_text-requires-clause-below g c =
    let met = rw (c.in-Each.is, c.play.ensures.played, c.in_ok-later.ensures.copy) at c.in_ok-answers.ensures.met in
    rw c.as_slice.ensures.value (answers-below g.R.Rule.KIND c.args.position.now c.args.at c.args.nodes c.args.adopted.files.now
    c.args.adopted.roots.now c.requires.roots c.in-Each.answers.items met.each)

pub node_text-requires-clause-wins : goal.node_text-requires-clause-wins
node_text-requires-clause-wins g c =
    let met = rw (c.in-Each.is, c.play.ensures.played, c.in_ok-later.ensures.copy) at c.in_ok-answers.ensures.met in
    rw c.as_slice.ensures.value (answers-all g.R.Rule.KIND c.args.position.now c.args.at c.args.nodes c.args.adopted.files.now
    c.args.adopted.roots.now c.requires.roots c.in-Each.answers.items met c.requires.compiled.table c.requires.on_board)

pub returns-in-Each : goal.returns-in-Each
returns-in-Each g c =
    let met = rw (c.in-Each.is, c.play.ensures.played, c.in_ok-later.ensures.copy) at c.in_ok-answers.ensures.met in
    record {
      says = joined-says g.R.Rule.KIND c.args.position.now c.args.at c.requires.goes_on c.args.nodes c.requires.compiled.table
          c.args.adopted.files.now c.args.adopted.roots.now c.requires.roots c.in-Each.answers.items met c.requires.few c.node_text.result
          (rw c.as_slice.ensures.value at c.node_text.ensures.told);
    }

pub returns-in-Open : goal.returns-in-Open
returns-in-Open g c =
    let met = rw (c.in-Open.is, c.play.ensures.played, c.in_ok-later.ensures.copy) at c.in_ok-answers.ensures.met in
    record {
      says = open-says c.args.adopted.files.now (record { kind = g.R.Rule.KIND; board = c.args.position.now }) c.args.at c.in-Open.q met
          c.no_answer.result c.no_answer.ensures.status c.no_answer.ensures.text;
    }
