use Rattle.std.proofs.Common.{sym, ◌∙◌}
use Rattle.game_rules.proofs.Common.{Grid, mover, after}
use Rattle.row_shapes.proofs.FiveLaws.{one-empty, has_five-none}
use Rattle.four_search.proofs.search.rules_out.Goals as goal

pub fives_made-requires-clause-empty : goal.fives_made-requires-clause-empty
fives_made-requires-clause-empty g c = one-empty _ _ _ _ (sym c.requires.threat ∙ c.in-One.is)

pub returns-in-None-matches : goal.returns-in-None-matches
returns-in-None-matches g c =
    let b : Grid = g.V.Seen.position c.args.view.now in
    record {
      out = λ e. rw c.in-One.is (has_five-none g.R.Rule.KIND (after b c.in-One.point) (mover b) (sym c.in-None-matches.ensures.made));
    }
