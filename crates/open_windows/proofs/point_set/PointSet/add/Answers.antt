use Rattle.std.proofs.Common.{◌||◌, List, ap, ◌∙◌, ℕ}
use Rattle.game_rules.specs.Shapes.{is_same_point}
use Rattle.open_windows.specs.PointSets.{has_point}
use Rattle.open_windows.proofs.SetBits.{one-more}
use Rattle.open_windows.proofs.point_set.PointSet.add.Goals as goal

pub returns : goal.returns
returns c = record {
  more = λ q. one-more c.self.inside.rows c.args.p q c.bit_of_place.result (assumption c.self) c.requires.row c.bit_of_place.ensures.bit
      ∙ ap (λ (rows : List ℕ). is_same_point q c.args.p || has_point rows q) c.self.view_is;
}
