use Rattle.std.proofs.Common.{◌≡◌, ◌++◌, ◌∷◌, [], refl, sym, subst, inr, arith}
use Rattle.strategy_checker.proofs.Common.{Grid, lift, lent_node, Entered}
use Rattle.game_rules.proofs.Undo.{stone_back}
use Rattle.strategy_checker.proofs.Sureness.{had_none}
use Rattle.strategy_checker.proofs.walk.Walk.go_down.Goals as goal

pub undo-requires-clause-stone : goal.undo-requires-clause-stone
undo-requires-clause-stone g c =
    let waits = c.requires.waits (lent_node c.node.result) c.node.ensures.node in
    stone_back g.R.Rule.KIND (lift c.args.position.now c.node.result.attack) c.args.position.now c.node.result.attack
    waits.stage.lawful waits.stage.on (sym waits.stage.back)

pub undo-requires-clause-unwon : goal.undo-requires-clause-unwon
undo-requires-clause-unwon g c = (c.requires.waits (lent_node c.node.result) c.node.ensures.node).stage.lawful.unwon

pub play-requires : goal.play-requires
play-requires g c = record { goes_on = (c.requires.waits (lent_node c.node.result) c.node.ensures.node).on }

pub enter-requires-clause-fives : goal.enter-requires-clause-fives
enter-requires-clause-fives g c =
    let waits = c.requires.waits (lent_node c.node.result) c.node.ensures.node in
    rw c.known_after-fives.ensures.fives
    (had_none g.R.Rule.KIND c.args.position.now c.args.stage.meeting.reply waits.lawful waits.on c.args.stage.meeting.outlook.free
    waits.stage.outlook.free c.play.new.self c.play.ensures.played)

pub returns-clause-went_on : goal.returns-clause-went_on
returns-clause-went_on g c = λ n at.
    let pushed : c.push.new.self.items ≡ c.args.waiting.now.items ++ c.args.stage ∷ [] = grind arith in
    inr (record {
      top = c.args.stage;
      next = c.args.next;
      start = c.args.self.now.left;
      waiting = pushed;
      same_node = refl;
      same_before = refl;
      waits = c.requires.waits n at;
      entered = subst (λ (w : Grid). Entered g.R.Rule.KIND c.args.table.now c.args.next w c.args.self.now.left c.enter.new.self
          c.enter.new.position c.enter.result) c.play.ensures.played c.enter.ensures.entered;
    })
