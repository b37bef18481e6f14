-- The move, taken back.
use Rattle.std.proofs.Common.{◌≡◌, ◌∙◌, ap, sym}
use Rattle.game_rules.proofs.Common.{Grid, after}
use Rattle.game_rules.proofs.Undo.{stone_back, lift_back, unwon_back}
use Rattle.reply_cover.proofs.covering.answers.Goals as goal

pub undo-requires-clause-stone : goal.undo-requires-clause-stone
undo-requires-clause-stone g c = stone_back _ _ _ _ c.in-GoesOn.ensures.lawful (sym c.in-GoesOn.ensures.outcome)
    (c.play.ensures.played ∙ ap (λ (b : Grid). after b c.args.q) c.in-GoesOn.ensures.same)

pub undo-requires-clause-unwon : goal.undo-requires-clause-unwon
undo-requires-clause-unwon g c = unwon_back _ _ _ _ c.in-GoesOn.ensures.lawful (sym c.in-GoesOn.ensures.outcome)
    (c.play.ensures.played ∙ ap (λ (b : Grid). after b c.args.q) c.in-GoesOn.ensures.same)

pub returns-in-GoesOn-clause-same : goal.returns-in-GoesOn-clause-same
returns-in-GoesOn-clause-same g c = c.undo.ensures.undone
    ∙ lift_back _ _ _ _ c.in-GoesOn.ensures.lawful (sym c.in-GoesOn.ensures.outcome)
    (c.play.ensures.played ∙ ap (λ (b : Grid). after b c.args.q) c.in-GoesOn.ensures.same)
