use Rattle.std.proofs.Common.{ap, sym, ◌∙◌}
use Rattle.std.proofs.lemmas.Option.{same_Some}
use Rattle.strategy_checker.proofs.Common.{lift, lent_node, Node}
use Rattle.game_rules.proofs.Undo.{stone_back}
use Rattle.strategy_checker.proofs.Stages.{stage-stops, waits-stops}
use Rattle.strategy_checker.proofs.walk.Walk.give_up.Goals as goal

pub undo-requires-clause-stone : goal.undo-requires-clause-stone
undo-requires-clause-stone g c =
    let waits = (c.requires.waits (lent_node c.node.result) c.node.ensures.node).1.1 in
    stone_back g.R.Rule.KIND (lift c.args.position.now c.args.stage.now.meeting.reply) c.args.position.now c.args.stage.now.meeting.reply
    waits.lawful waits.on (sym c.requires.there)

pub undo-requires-2-clause-stone : goal.undo-requires-2-clause-stone
undo-requires-2-clause-stone g c =
    let waits = (c.requires.waits (lent_node c.node.result) c.node.ensures.node).1.1 in
    stone_back g.R.Rule.KIND (lift (lift c.args.position.now c.args.stage.now.meeting.reply) c.node.result.attack) _
    c.node.result.attack waits.stage.lawful waits.stage.on (c.undo.ensures.undone ∙ sym waits.stage.back)

pub returns-clause-stops : goal.returns-clause-stops
returns-clause-stops g c = λ n i start waits stops.
    stage-stops c.noted-last.new.self c.noted.new.self c.noted-last.result c.noted.result waits.stage
    (waits-stops waits c.args.self.now c.noted-last.new.self c.args.stop c.noted-last.result (rw c.requires.there stops)
    c.noted-last.ensures.noted)
    (rw (ap (λ (m : Node). m.attack) (same_Some _ n (sym c.node.ensures.node ∙ waits.stage.at))) at c.noted.ensures.noted)
