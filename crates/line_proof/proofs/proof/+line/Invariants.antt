use Rattle.std.proofs.Common.{◌≡◌, ◌+◌, ◌-◌, ◌*◌, ◌≤◌, ◌++◌, IfSome, sum_by}
use Rattle.std.specs.List.{list_all}
use Rattle.game_rules.proofs.Common.{points_of, outcome, after, loses_or, if_goes_on, behind_replies}
use Rattle.strategy_compiler.proofs.Common.{GrowsBy, IsCompiled}
use Rattle.line_proof.proofs.Common.{line_wins, line_tree, each_loses, IsDouble, AreAnswers, answered, going_on}
use Rattle.line_proof.proofs.proof.+line.Given as goal

abbrev pub decreases-prove_slow : goal.decreases-prove_slow
decreases-prove_slow g l = 10 * l.line.moves

abbrev pub decreases-prove_reply : goal.decreases-prove_reply
decreases-prove_reply g l = 10 * l.line.moves + 1

abbrev pub decreases-prove_after : goal.decreases-prove_after
decreases-prove_after g l = 10 * l.line.moves + 2

abbrev pub decreases-answer_on : goal.decreases-answer_on
decreases-answer_on g l = 10 * l.line.moves + 3

abbrev pub decreases-answer_reply : goal.decreases-answer_reply
decreases-answer_reply g l = 10 * l.line.moves + 4

abbrev pub decreases-answer_each : goal.decreases-answer_each
decreases-answer_each g l = 10 * l.line.moves + 5

abbrev pub decreases-answers_after : goal.decreases-answers_after
decreases-answers_after g l = 10 * l.line.moves + 6

abbrev pub decreases-prove_on : goal.decreases-prove_on
decreases-prove_on g l = 10 * l.line.moves + 7

abbrev pub decreases-prove_move : goal.decreases-prove_move
decreases-prove_move g l = 10 * l.line.moves + 8

abbrev pub decreases-prove_gain : goal.decreases-prove_gain
decreases-prove_gain g l = 10 * l.line.moves + 9

-- the view is as before, and the hint is one; the answers found, and those that the points left need, are all, and so are the nodes; the
-- points left lose where all points do
abbrev pub invariant-answer_each-loop-q : goal.invariant-answer_each-loop-q
invariant-answer_each-loop-q g l = record {
  same : g.V.Seen.position l.view ≡ g.V.Seen.position l.fn.view;
  compiled : IsCompiled l.compiler;
  left : sum_by (λ q. if_goes_on (outcome g.R.Rule.KIND (g.V.Seen.position l.fn.view) q)
      (line_tree g.R.Rule.KIND l.line.threats.now l.line.moves (after (g.V.Seen.position l.fn.view) q))) l.q-iterator ≤ behind_replies
      g.R.Rule.KIND
      (line_tree g.R.Rule.KIND l.line.threats.now l.line.moves) (g.V.Seen.position l.fn.view);
  grows : GrowsBy l.fn.compiler l.compiler
      (behind_replies g.R.Rule.KIND (line_tree g.R.Rule.KIND l.line.threats.now l.line.moves) (g.V.Seen.position l.fn.view) - sum_by
      (λ q. if_goes_on (outcome g.R.Rule.KIND (g.V.Seen.position l.fn.view) q)
      (line_tree g.R.Rule.KIND l.line.threats.now l.line.moves (after (g.V.Seen.position l.fn.view) q))) l.q-iterator);
  hint : IfSome l.hints.double (IsDouble (g.V.Seen.position l.fn.view).width (g.V.Seen.position l.fn.view).height l.compiler);
  answers : AreAnswers g.R.Rule.KIND l.line.moves l.compiler (g.V.Seen.position l.fn.view) l.answers;
  rest : answered l.answers ++ going_on g.R.Rule.KIND (g.V.Seen.position l.fn.view) l.q-iterator ≡ going_on g.R.Rule.KIND
      (g.V.Seen.position l.fn.view) (points_of (g.V.Seen.position l.fn.view));
  lose : list_all (λ q. loses_or (outcome g.R.Rule.KIND (g.V.Seen.position l.fn.view) q)
      (line_wins g.R.Rule.KIND l.line.threats.now l.line.moves (after (g.V.Seen.position l.fn.view) q))) l.q-iterator ≡ each_loses
      g.R.Rule.KIND
      (g.V.Seen.position l.fn.view) (line_wins g.R.Rule.KIND l.line.threats.now l.line.moves);
}
