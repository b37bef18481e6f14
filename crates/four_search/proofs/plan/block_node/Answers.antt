use Rattle.std.proofs.Common.{ap, ◌∙◌}
use Rattle.game_rules.proofs.Common.{Grid, points_of, outcome}
use Rattle.strategy_graph.specs.Tables.{is_rising}
use Rattle.game_rules.proofs.Undo.{stone_back, lift_back, unwon_back}
use Rattle.four_search.proofs.Planning.{answers-below, answer_node-below}
use Rattle.strategy_compiler.specs.Forks.{answer_node}
use Rattle.four_search.proofs.Deepening.{answers-rising}
use Rattle.four_search.proofs.plan.block_node.Goals as goal

pub undo-requires-clause-stone : goal.undo-requires-clause-stone
undo-requires-clause-stone g c =
    stone_back _ _ _ _ c.play.ensures.lawful c.requires.goes_on (c.answers-found.ensures.same ∙ c.play.ensures.played)

pub undo-requires-clause-unwon : goal.undo-requires-clause-unwon
undo-requires-clause-unwon g c =
    unwon_back _ _ _ _ c.play.ensures.lawful c.requires.goes_on (c.answers-found.ensures.same ∙ c.play.ensures.played)

pub fork-requires-clause-rising : goal.fork-requires-clause-rising
fork-requires-clause-rising g c =
    let d : Grid = g.V.Seen.position c.play.new.self in
    let all = c.as_slice.ensures.value ∙ c.in-Ok.ensures.answers in
    ap is_rising all ∙ answers-rising (outcome g.R.Rule.KIND d) (answer_node c.args.exchange.block c.args.at_block c.args.beside) d

pub fork-requires-clause-below : goal.fork-requires-clause-below
fork-requires-clause-below g c =
    let d : Grid = g.V.Seen.position c.play.new.self in
    let all = c.as_slice.ensures.value ∙ c.in-Ok.ensures.answers in
    rw all (answers-below (outcome g.R.Rule.KIND d) _ _
    (answer_node-below c.args.exchange.block _ _ _ c.requires.at_block_below c.requires.beside_below) (points_of d))

pub returns-in-Err-clause-same : goal.returns-in-Err-clause-same
returns-in-Err-clause-same g c =
    c.undo.ensures.undone ∙ lift_back _ _ _ _ c.play.ensures.lawful c.requires.goes_on
    (c.answers-found.ensures.same ∙ c.play.ensures.played)

pub returns-in-Ok-clause-same : goal.returns-in-Ok-clause-same
returns-in-Ok-clause-same g c =
    c.undo.ensures.undone ∙ lift_back _ _ _ _ c.play.ensures.lawful c.requires.goes_on
    (c.answers-found.ensures.same ∙ c.play.ensures.played)
