use Rattle.std.proofs.Common.{◌∙◌}
use Rattle.game_rules.specs.Grid.{Grid}
use Rattle.threat_moves.proofs.FourLaws.{four-goes_on}
use Rattle.game_rules.proofs.Undo.{stone_back, lift_back, unwon_back}
use Rattle.threat_moves.proofs.block.forced.Goals as goal

pub play-requires : goal.play-requires
play-requires g c = record { goes_on = four-goes_on g.R.Rule.KIND (g.V.Seen.position c.args.view.now) c.args.p c.requires.four }

pub undo-requires-clause-stone : goal.undo-requires-clause-stone
undo-requires-clause-stone g c =
    let b : Grid = g.V.Seen.position c.args.view.now in
    stone_back g.R.Rule.KIND b _ c.args.p c.play.ensures.lawful (four-goes_on g.R.Rule.KIND b c.args.p c.requires.four)
    (c.fate-answer.ensures.same ∙ c.play.ensures.played)

pub undo-requires-clause-unwon : goal.undo-requires-clause-unwon
undo-requires-clause-unwon g c =
    let b : Grid = g.V.Seen.position c.args.view.now in
    unwon_back g.R.Rule.KIND b _ c.args.p c.play.ensures.lawful (four-goes_on g.R.Rule.KIND b c.args.p c.requires.four)
    (c.fate-answer.ensures.same ∙ c.play.ensures.played)

pub returns-clause-same : goal.returns-clause-same
returns-clause-same g c =
    let b : Grid = g.V.Seen.position c.args.view.now in
    c.undo.ensures.undone ∙ lift_back g.R.Rule.KIND b _ c.args.p c.play.ensures.lawful
    (four-goes_on g.R.Rule.KIND b c.args.p c.requires.four) (c.fate-answer.ensures.same ∙ c.play.ensures.played)
