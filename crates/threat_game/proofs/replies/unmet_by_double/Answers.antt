use Rattle.threat_game.proofs.MetLaws.{unmet-double}
use Rattle.threat_game.proofs.replies.unmet_by_double.Goals as goal

pub returns : goal.returns
returns g c = record {
  unmet = unmet-double g.R.Rule.KIND (g.V.Seen.position c.args.view.now) c.requires.lawful c.args.first c.args.double c.requires.stands
      c.requires.no_five c.requires.safe c.args.windows.now c.add.new.self c.add-2.new.self c.add-3.new.self c.requires.windows
      c.add.ensures.more c.add-2.ensures.more c.add-3.ensures.more;
}
