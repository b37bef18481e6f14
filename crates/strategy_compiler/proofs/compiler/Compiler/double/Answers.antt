-- The answers are to the given replies, by nodes that take the two points.
use Rattle.std.proofs.Common.{◌<◌, List, map, length, sym, ap, subst, ◌∙◌, All}
use Rattle.strategy_graph.specs.declared.Reply.{Reply}
use Rattle.strategy_graph.proofs.Filling.{IsTable-lower}
use Rattle.strategy_compiler.proofs.Forks.{double-wins, two-below, two-points}
use Rattle.strategy_compiler.proofs.Growing.{node-stays}
use Rattle.strategy_compiler.proofs.compiler.Compiler.double.Goals as goal

pub fork-requires-clause-rising : goal.fork-requires-clause-rising
fork-requires-clause-rising c = c.requires.rising c.as_slice.result.now
    (ap (λ (rs : List Reply). map (λ r. r.at) rs) (c.as_slice.ensures.value ∙ c.in_ok-answers.ensures.answers)
    ∙ two-points c.args.first c.in_ok-at_first.at_first c.in_ok-beside.beside c.args.replies.now)

pub fork-requires-clause-below : goal.fork-requires-clause-below
fork-requires-clause-below c = subst (λ (rs : List Reply). All (λ r. r.next < length c.leaf_if-2.new.self) rs)
    (sym (c.as_slice.ensures.value ∙ c.in_ok-answers.ensures.answers)) (two-below c.leaf_if-2.new.self
    (IsTable-lower c.leaf_if-2.new.self c.in_ok-beside.ensures.writes.compiled.table) c.args.start c.args.first c.args.second
    c.args.replies.now c.in_ok-at_first.at_first c.in_ok-beside.beside
    (λ e. node-stays c.leaf_if.new.self c.leaf_if-2.new.self _ c.in_ok-at_first.at_first _ c.in_ok-beside.ensures.writes.grows
    (c.in_ok-at_first.ensures.node (c.has_point.ensures.has ∙ e))) (λ e. c.in_ok-beside.ensures.node (c.has_other.ensures.has ∙ e)))

pub returns-clause-win : goal.returns-clause-win
returns-clause-win c = λ rule b threat. double-wins c.leaf_if-2.new.self
    (IsTable-lower c.leaf_if-2.new.self c.in_ok-beside.ensures.writes.compiled.table) c.args.start c.args.first c.args.second
    c.args.replies.now c.in_ok-at_first.at_first c.in_ok-beside.beside
    (λ e. node-stays c.leaf_if.new.self c.leaf_if-2.new.self _ c.in_ok-at_first.at_first _ c.in_ok-beside.ensures.writes.grows
    (c.in_ok-at_first.ensures.node (c.has_point.ensures.has ∙ e)))
    (λ e. c.in_ok-beside.ensures.node (c.has_other.ensures.has ∙ e)) c.fork.new.self c.as_slice.result.now
    (c.as_slice.ensures.value ∙ c.in_ok-answers.ensures.answers) c.in_ok-node.node c.in_ok-node.ensures.wins rule b threat _
    c.double_moves.ensures.moves
