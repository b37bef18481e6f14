use Rattle.std.proofs.Common.{sym}
use Rattle.game_rules.proofs.Common.{Grid, mover, other}
use Rattle.row_shapes.proofs.FiveLaws.{none-short}
use Rattle.four_search.proofs.root.look_without_fives.Goals as goal

pub returns : goal.returns
returns g c =
    let b : Grid = g.V.Seen.position c.args.view.now in
    record {
      root = record {
        none = c.requires.none;
        told = sym (none-short g.R.Rule.KIND b (other (mover b)) c.requires.safe);
        listed = c.in_ok-four_points.ensures.four_points;
      };
    }
