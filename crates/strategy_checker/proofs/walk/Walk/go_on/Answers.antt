use Rattle.std.proofs.Common.{◌∙◌, length, refl, sym, inl, arith}
use Rattle.std.proofs.lemmas.Option.{same_Some}
use Rattle.strategy_checker.proofs.Common.{lift, lent_node, Node, answers_of}
use Rattle.game_rules.proofs.Undo.{stone_back}
use Rattle.strategy_graph.proofs.Answering.{answer-below}
use Rattle.strategy_graph.proofs.Filling.{names_below-more}
use Rattle.strategy_checker.proofs.Stages.{stage-on, stage-stops, went-on-same}
use Rattle.strategy_checker.proofs.walk.Walk.go_on.Goals as goal

pub next-met-requires-clause-below : goal.next-met-requires-clause-below
next-met-requires-clause-below g c =
    let there = c.requires.in_table in
    let is = c.node-node.ensures.table.nodes c.args.stage.node (lent_node c.node-node.result) c.node-node.ensures.node in
    names_below-more (answers_of (lent_node c.node-node.result)) c.args.stage.node (length c.args.table.now) (omega (arith, there)) is.below

pub next-met-requires-clause-rising : goal.next-met-requires-clause-rising
next-met-requires-clause-rising g c =
    (c.node-node.ensures.table.nodes c.args.stage.node (lent_node c.node-node.result) c.node-node.ensures.node).rising

pub next-met-requires-clause-outlook : goal.next-met-requires-clause-outlook
next-met-requires-clause-outlook g c = (c.requires.stage (lent_node c.node-node.result) c.node-node.ensures.node).outlook

pub go_down-requires-clause-below : goal.go_down-requires-clause-below
go_down-requires-clause-below g c =
    let n : Node = lent_node c.node-node.result in
    let is = c.node-node.ensures.table.nodes c.args.stage.node n c.node-node.ensures.node in
    let below = names_below-more (answers_of n) c.args.stage.node (length c.args.table.now) (omega (arith, c.requires.in_table)) is.below in
    answer-below (answers_of n) (length c.args.table.now) c.next-met.new.meeting.reply c.in-Some.next below
    (rw c.in-Some.is at c.in-Ok.ensures.advanced).2

pub go_down-requires-clause-waits : goal.go_down-requires-clause-waits
go_down-requires-clause-waits g c = λ m at.
    let same = same_Some _ m (sym c.node-node.ensures.node ∙ at) in
    let advanced = rw c.in-Some.is at c.in-Ok.ensures.advanced in
    let stage = c.requires.stage (lent_node c.node-node.result) c.node-node.ensures.node in
    rw (c.next-met.ensures.same, ← same) (record {
      stage = stage-on c.next-met.new.meeting stage c.next-met.ensures.outlook advanced.0;
      lawful = c.requires.ready.lawful;
      on = advanced.1;
      answered = advanced.2;
    })

pub leave-requires-clause-stage : goal.leave-requires-clause-stage
leave-requires-clause-stage g c = λ m at.
    let same = same_Some _ m (sym c.node-node.ensures.node ∙ at) in
    let stage = c.requires.stage (lent_node c.node-node.result) c.node-node.ensures.node in
    rw (c.next-met.ensures.same, ← same)
    (stage-on c.next-met.new.meeting stage c.next-met.ensures.outlook (rw c.in-None.is at c.in-Ok.ensures.advanced))

pub undo-requires-clause-stone : goal.undo-requires-clause-stone
undo-requires-clause-stone g c =
    let stage = c.requires.stage (lent_node c.node-node.result) c.node-node.ensures.node in
    stone_back g.R.Rule.KIND (lift c.args.position.now c.node-node.result.attack) c.next-met.new.position c.node-node.result.attack
    stage.lawful stage.on (c.next-met.ensures.same ∙ sym stage.back)

pub undo-requires-clause-unwon : goal.undo-requires-clause-unwon
undo-requires-clause-unwon g c =
    rw c.next-met.ensures.same (c.requires.stage (lent_node c.node-node.result) c.node-node.ensures.node).lawful.unwon

pub returns-in-None-clause-went_on : goal.returns-in-None-clause-went_on
returns-in-None-clause-went_on g c = λ m at.
    inl (refl, (rw c.next-met.ensures.same at (c.leave.ensures.settled m at), rw c.next-met.ensures.same at (c.leave.ensures.undone m at)))

pub returns-in-Some-clause-went_on : goal.returns-in-Some-clause-went_on
returns-in-Some-clause-went_on g c = λ m at.
    went-on-same g.R.Rule.KIND c.args.table.now m c.args.position.now c.args.stage c.next-met.new.meeting c.args.waiting.now.items
    c.go_down.new.waiting.items c.go_down.new.self c.go_down.new.position c.go_down.result
    (rw c.next-met.ensures.same at (c.go_down.ensures.went_on m at))

pub returns-in-Err-clause-went_on : goal.returns-in-Err-clause-went_on
returns-in-Err-clause-went_on g c = λ m at.
    let stage = c.requires.stage (lent_node c.node-node.result) c.node-node.ensures.node in
    rw (← same_Some _ m (sym c.node-node.ensures.node ∙ at)) (inl (
      refl,
      (
        stage-stops c.next-met.new.self c.noted.new.self c.in-Err.stop c.noted.result stage c.in-Err.ensures.advanced c.noted.ensures.noted,
        rw c.next-met.ensures.same at c.undo.ensures.undone,
      ),
    ))
