use Rattle.std.proofs.Common.{sym}
use Rattle.game_rules.proofs.Common.{Grid, mover, after}
use Rattle.row_shapes.proofs.FiveLaws.{none-short}
use Rattle.open_windows.proofs.Points.{told-outside}
use Rattle.threat_game.proofs.WindowLaws.{outside-no_five}
use Rattle.threat_game.proofs.attacks.fives_by.Goals as goal

pub returns-then-not-has : goal.returns-then-not-has
returns-then-not-has g c =
    let b : Grid = g.V.Seen.position c.args.view.now in
    record {
      made = sym (none-short g.R.Rule.KIND (after b c.args.p) (mover b)
          (outside-no_five g.R.Rule.KIND b (mover b) c.args.p c.requires.windows.board c.requires.none
          (told-outside b (mover b) 3 c.args.windows.now c.args.p c.has.result c.requires.windows c.has.ensures.has c.if-not-has.true)
          c.requires.empty));
    }
