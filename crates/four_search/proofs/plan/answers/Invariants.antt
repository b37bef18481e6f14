use Rattle.std.proofs.Common.{◌≡◌, ◌++◌}
use Rattle.game_rules.proofs.Common.{points_of, outcome}
use Rattle.strategy_compiler.specs.Forks.{answer_node}
use Rattle.four_search.specs.Plans.{answers_for}
use Rattle.four_search.proofs.plan.answers.Given as goal

-- the view is as before; the answers found, and those to the points left, are all
abbrev pub invariant-loop-q : goal.invariant-loop-q
invariant-loop-q g l = (g.V.Seen.position l.view ≡ g.V.Seen.position l.fn.view) ×
    (l.found.items ++ answers_for (outcome g.R.Rule.KIND (g.V.Seen.position l.fn.view))
    (answer_node l.block l.at_block l.beside) l.q-iterator ≡ answers_for (outcome g.R.Rule.KIND (g.V.Seen.position l.fn.view))
    (answer_node l.block l.at_block l.beside) (points_of (g.V.Seen.position l.fn.view)))
