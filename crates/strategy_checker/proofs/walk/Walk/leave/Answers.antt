use Rattle.std.proofs.Common.{sym, arith, rules}
use Rattle.strategy_checker.proofs.Common.{lift, lent_node}
use Rattle.game_rules.proofs.Undo.{stone_back}
use Rattle.strategy_checker.proofs.walk.Walk.leave.Goals as goal

pub undo-requires-clause-stone : goal.undo-requires-clause-stone
undo-requires-clause-stone g c =
    let stage = c.requires.stage (lent_node c.node-node.result) c.node-node.ensures.node in
    stone_back g.R.Rule.KIND (lift c.args.position.now c.node-node.result.attack) c.args.position.now c.node-node.result.attack
    stage.lawful stage.on (sym stage.back)

pub undo-requires-clause-unwon : goal.undo-requires-clause-unwon
undo-requires-clause-unwon g c = (c.requires.stage (lent_node c.node-node.result) c.node-node.ensures.node).lawful.unwon

pub overflow_sub-stage : goal.overflow_sub-stage
overflow_sub-stage g c = let stage = c.requires.stage (lent_node c.node-node.result) c.node-node.ensures.node in omega arith

pub keep-requires-clause-walked : goal.keep-requires-clause-walked
keep-requires-clause-walked g c = let stage = c.requires.stage (lent_node c.node-node.result) c.node-node.ensures.node in search rules
