-- The move, taken back.
use Rattle.std.proofs.Common.{◌≡◌, ◌∙◌, ap, sym, subst}
use Rattle.join_command.proofs.Common.{Grid, after, IsAnswerTold}
use Rattle.game_rules.proofs.Undo.{stone_back, lift_back, unwon_back}
use Rattle.join_command.proofs.Replies.{open-by}
use Rattle.join_command.proofs.meeting.meet.Goals as goal

pub undo-requires-clause-stone : goal.undo-requires-clause-stone
undo-requires-clause-stone g c = stone_back _ _ _ _ c.in-GoesOn.ensures.lawful (sym c.in-GoesOn.ensures.outcome)
    (c.play.ensures.played ∙ ap (λ (b : Grid). after b c.args.q) c.in-GoesOn.ensures.same)

pub undo-requires-clause-unwon : goal.undo-requires-clause-unwon
undo-requires-clause-unwon g c = unwon_back _ _ _ _ c.in-GoesOn.ensures.lawful (sym c.in-GoesOn.ensures.outcome)
    (c.play.ensures.played ∙ ap (λ (b : Grid). after b c.args.q) c.in-GoesOn.ensures.same)

pub returns-in_err-found-in-GoesOn-clause-same : goal.returns-in_err-found-in-GoesOn-clause-same
returns-in_err-found-in-GoesOn-clause-same g c = c.undo.ensures.undone
    ∙ lift_back _ _ _ _ c.in-GoesOn.ensures.lawful (sym c.in-GoesOn.ensures.outcome)
    (c.play.ensures.played ∙ ap (λ (b : Grid). after b c.args.q) c.in-GoesOn.ensures.same)

pub returns-in-Some-clause-same : goal.returns-in-Some-clause-same
returns-in-Some-clause-same g c = c.undo.ensures.undone
    ∙ lift_back _ _ _ _ c.in-GoesOn.ensures.lawful (sym c.in-GoesOn.ensures.outcome)
    (c.play.ensures.played ∙ ap (λ (b : Grid). after b c.args.q) c.in-GoesOn.ensures.same)

pub returns-in-None-clause-met : goal.returns-in-None-clause-met
returns-in-None-clause-met g c =
    let there : c.play.new.self ≡ after c.args.position.now c.args.q =
    c.play.ensures.played ∙ ap (λ (b : Grid). after b c.args.q) c.in-GoesOn.ensures.same in
    let none = subst (IsAnswerTold g.R.Rule.KIND c.args.files.now c.play.new.self) c.in-None.is c.in_ok-found-in-GoesOn.ensures.answer in
    open-by g.R.Rule.KIND c.args.files.now c.args.position.now c.play.new.self c.args.q (sym c.in-GoesOn.ensures.outcome) there none

pub returns-in-None-clause-same : goal.returns-in-None-clause-same
returns-in-None-clause-same g c = c.undo.ensures.undone
    ∙ lift_back _ _ _ _ c.in-GoesOn.ensures.lawful (sym c.in-GoesOn.ensures.outcome)
    (c.play.ensures.played ∙ ap (λ (b : Grid). after b c.args.q) c.in-GoesOn.ensures.same)
