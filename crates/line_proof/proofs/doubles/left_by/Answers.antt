use Rattle.std.proofs.Common.{◌∙◌}
use Rattle.game_rules.proofs.Undo.{stone_back, lift_back, unwon_back}
use Rattle.line_proof.proofs.doubles.left_by.Goals as goal

pub undo-requires-clause-stone : goal.undo-requires-clause-stone
undo-requires-clause-stone g c = stone_back _ _ _ _ c.play.ensures.lawful c.requires.goes_on c.play.ensures.played

pub undo-requires-clause-unwon : goal.undo-requires-clause-unwon
undo-requires-clause-unwon g c = unwon_back _ _ _ _ c.play.ensures.lawful c.requires.goes_on c.play.ensures.played

pub returns-in_err-points : goal.returns-in_err-points
returns-in_err-points g c =
    record {
      same = c.undo.ensures.undone ∙ lift_back _ _ _ _ c.play.ensures.lawful c.requires.goes_on c.play.ensures.played;
    }

pub returns-in-len2-up : goal.returns-in-len2-up
returns-in-len2-up g c =
    record {
      same = c.undo.ensures.undone ∙ lift_back _ _ _ _ c.play.ensures.lawful c.requires.goes_on c.play.ensures.played;
    }

pub returns : goal.returns
returns g c =
    record {
      same = c.undo.ensures.undone ∙ lift_back g.R.Rule.KIND (g.V.Seen.position c.args.view.now) _ c.args.start c.play.ensures.lawful
          c.requires.goes_on c.play.ensures.played;
    }
