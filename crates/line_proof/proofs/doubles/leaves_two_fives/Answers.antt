use Rattle.std.proofs.Common.{◌∙◌}
use Rattle.game_rules.proofs.Undo.{stone_back, lift_back, unwon_back}
use Rattle.line_proof.proofs.doubles.leaves_two_fives.Goals as goal

pub undo-requires-clause-stone : goal.undo-requires-clause-stone
undo-requires-clause-stone g c = stone_back _ _ _ _ c.play.ensures.lawful c.requires.goes_on c.play.ensures.played

pub undo-requires-clause-unwon : goal.undo-requires-clause-unwon
undo-requires-clause-unwon g c = unwon_back _ _ _ _ c.play.ensures.lawful c.requires.goes_on c.play.ensures.played

pub returns-clause-same : goal.returns-clause-same
returns-clause-same g c = c.undo.ensures.undone ∙ lift_back _ _ _ _ c.play.ensures.lawful c.requires.goes_on c.play.ensures.played
