use Rattle.std.proofs.Common.{ap, ◌∙◌, List, ℕ}
use Rattle.std.specs.List.{filter}
use Rattle.game_rules.specs.declared.Point.{Point}
use Rattle.open_windows.specs.PointSets.{has_point, set_points}
use Rattle.open_windows.proofs.SetOrder.{points-kept}
use Rattle.open_windows.proofs.set_points.SetPoints.keep.Goals as goal

pub returns : goal.returns
returns c =
    let points : List Point = set_points c.self.inside.rows c.self.inside.width c.self.inside.height c.self.inside.row.y
    c.self.inside.row.bits in
    record {
      kept = points-kept c.self.inside.rows c.set.inside.rows c.shared-self-inside.result c.self.inside.width c.self.inside.height
          c.self.inside.row.y c.self.inside.row.bits c.self.invariant c.shared-self-inside.ensures.shared
          ∙ ap (λ (set : List ℕ). filter (has_point set) points) c.set.view_is
          ∙ ap (filter (has_point c.args.set.now)) c.self.view_is;
    }
