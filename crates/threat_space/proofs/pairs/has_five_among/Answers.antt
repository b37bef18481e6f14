use Rattle.std.proofs.Common.{true, ap, ◌∙◌, arith}
use Rattle.std.specs.List.{list_any}
use Rattle.std.proofs.lemmas.Map.Views.{any-filter_same}
use Rattle.game_rules.proofs.Common.{five}
use Rattle.game_rules.proofs.Boards.{is_empty-on}
use Rattle.game_rules.proofs.Fives.{five-empty}
use Rattle.open_windows.proofs.Fewer.{in-fewer}
use Rattle.open_windows.proofs.NewFives.{five-point-in}
use Rattle.threat_space.proofs.Common.{Grid, points_of, set_has}
use Rattle.threat_space.proofs.pairs.has_five_among.Goals as goal

pub loop-p-init : goal.loop-p-init
loop-p-init g c =
    let b : Grid = c.args.board.now in
    let tells = c.requires.windows in
    ap (list_any (five g.R.Rule.KIND b c.args.side)) (c.into_iter-p-iterator.ensures.into_iter_gives ∙ c.points-p-items.ensures.points)
    ∙ any-filter_same (five g.R.Rule.KIND b c.args.side) (set_has c.args.windows.now) true
    (λ p h. tells.points p (is_empty-on b p (five-empty g.R.Rule.KIND b c.args.side p h))
    ∙ in-fewer b c.args.side 4 3 p (omega arith) (five-point-in g.R.Rule.KIND b c.args.side p tells.board h)) (points_of b)
