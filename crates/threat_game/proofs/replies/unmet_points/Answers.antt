use Rattle.std.proofs.Common.{◌<◌, length, sym, ◌∙◌, arith}
use Rattle.game_rules.proofs.Common.{Grid, points_of, five, mover, other}
use Rattle.game_rules.proofs.PointLists.{no_points}
use Rattle.game_rules.proofs.Points.{filter-none}
use Rattle.threat_game.proofs.MetLaws.{passes-none}
use Rattle.threat_game.proofs.replies.unmet_points.Goals as goal

pub unmet_by_double-requires-clause-safe : goal.unmet_by_double-requires-clause-safe
unmet_by_double-requires-clause-safe g c =
    let b : Grid = g.V.Seen.position c.args.view.now in
    let none : length c.as_slice.result.now < 1 = c.in-empty.len_below in
    filter-none (five g.R.Rule.KIND b (other (mover b))) (points_of b)
    (sym (c.as_slice.ensures.items ∙ c.requires.fives) ∙ no_points c.as_slice.result.now (omega (arith, none)))

pub returns-in-None : goal.returns-in-None
returns-in-None g c = record {
  unmet = record {
    met = passes-none g.R.Rule.KIND (g.V.Seen.position c.args.view.now) c.requires.lawful c.args.first c.all.result c.all.ensures.all;
  };
}
