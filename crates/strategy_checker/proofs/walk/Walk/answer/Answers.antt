use Rattle.std.proofs.Common.{◌∙◌, subst}
use Rattle.strategy_checker.proofs.Common.{Grid, Stops}
use Rattle.game_rules.proofs.Undo.{stone_back, lift_back, unwon_back}
use Rattle.strategy_checker.proofs.Sureness.{had_none}
use Rattle.strategy_checker.proofs.Stages.{reply-stops}
use Rattle.strategy_checker.proofs.walk.Walk.answer.Goals as goal

pub visit-walked-requires-clause-fives : goal.visit-walked-requires-clause-fives
visit-walked-requires-clause-fives g c = rw c.known_after-fives.ensures.fives
    (had_none g.R.Rule.KIND c.args.position.now c.args.q c.requires.ready.lawful c.requires.goes_on c.args.free c.requires.free
    c.play.new.self c.play.ensures.played)

pub undo-requires-clause-stone : goal.undo-requires-clause-stone
undo-requires-clause-stone g c = stone_back g.R.Rule.KIND c.args.position.now _ c.args.q c.requires.ready.lawful c.requires.goes_on
    (c.visit-walked.ensures.same ∙ c.play.ensures.played)

pub undo-requires-clause-unwon : goal.undo-requires-clause-unwon
undo-requires-clause-unwon g c = unwon_back g.R.Rule.KIND c.args.position.now _ c.args.q c.requires.ready.lawful c.requires.goes_on
    (c.visit-walked.ensures.same ∙ c.play.ensures.played)

pub returns-in-Ok-clause-same : goal.returns-in-Ok-clause-same
returns-in-Ok-clause-same g c =
    c.undo.ensures.undone ∙ lift_back g.R.Rule.KIND c.args.position.now _ c.args.q c.requires.ready.lawful c.requires.goes_on
    (c.visit-walked.ensures.same ∙ c.play.ensures.played)

pub returns-in-Err-clause-walked : goal.returns-in-Err-clause-walked
returns-in-Err-clause-walked g c = λ a answered.
    reply-stops g.R.Rule.KIND c.args.table.now a c.args.position.now c.args.q c.args.next c.args.self.now.left c.requires.goes_on answered
    c.visit-walked.new.self c.noted.new.self c.in-Err.stop c.noted.result
    (subst (λ (w : Grid). Stops g.R.Rule.KIND c.args.table.now c.args.next w c.args.self.now.left c.visit-walked.new.self c.in-Err.stop)
    c.play.ensures.played c.in-Err.ensures.walked) c.noted.ensures.noted

pub returns-in-Err-clause-same : goal.returns-in-Err-clause-same
returns-in-Err-clause-same g c =
    c.undo.ensures.undone ∙ lift_back g.R.Rule.KIND c.args.position.now _ c.args.q c.requires.ready.lawful c.requires.goes_on
    (c.visit-walked.ensures.same ∙ c.play.ensures.played)
