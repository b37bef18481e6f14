use Rattle.std.proofs.Common.{refl, sym, ◌∙◌}
use Rattle.game_rules.proofs.Common.{Grid, mover, other, five_points}
use Rattle.threat_game.proofs.MetLaws.{first-on, passes-none, unmet-five}
use Rattle.threat_game.proofs.replies.unmet_by_five.Goals as goal

pub the_point-requires : goal.the_point-requires
the_point-requires g c =
    let on = first-on g.R.Rule.KIND (g.V.Seen.position c.args.view.now) c.requires.lawful c.args.five c.requires.five in
    record { column = on.0; row = on.1 }

pub returns-then-not-is_met : goal.returns-then-not-is_met
returns-then-not-is_met g c = record {
  unmet = record {
    met = passes-none g.R.Rule.KIND (g.V.Seen.position c.args.view.now) c.requires.lawful c.args.first c.all.result c.all.ensures.all;
  };
}

pub returns : goal.returns
returns g c = record {
  unmet =
      let b : Grid = g.V.Seen.position c.args.view.now in
      unmet-five g.R.Rule.KIND b c.requires.lawful c.args.first (five_points g.R.Rule.KIND b (other (mover b))) c.args.five refl
      c.requires.five (sym c.is_met.ensures.met ∙ c.if-not-is_met.false) c.the_point.result c.the_point.ensures.point;
}
