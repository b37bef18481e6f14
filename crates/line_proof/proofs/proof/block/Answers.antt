use Rattle.std.proofs.Common.{◌≡◌, sym, ap, ◌∙◌}
use Rattle.game_rules.proofs.Common.{Grid, points_of, five, mover, other, five_points}
use Rattle.game_rules.specs.declared.Point.{Point}
use Rattle.game_rules.proofs.PointLists.{none-first, some-first}
use Rattle.line_proof.proofs.proof.block.Goals as goal

pub returns-in-empty : goal.returns-in-empty
returns-in-empty g c =
    let b : Grid = g.V.Seen.position c.args.view.now in
    let side : c.other-defender.result ≡ other (mover b) = c.other-defender.ensures.other ∙ ap other c.side.ensures.side in
    let points = c.as_slice.ensures.items ∙ c.in_ok-points.ensures.fives ∙ ap (five_points g.R.Rule.KIND b) side in
    record {
      block = sym (none-first (five g.R.Rule.KIND b (other (mover b))) (points_of b) c.as_slice.result.now points c.in-empty.len_below);
    }

pub returns : goal.returns
returns g c =
    let b : Grid = g.V.Seen.position c.args.view.now in
    let nowhere : Point = record { x = 0; y = 0 } in
    let side : c.other-defender.result ≡ other (mover b) = c.other-defender.ensures.other ∙ ap other c.side.ensures.side in
    let points = c.as_slice.ensures.items ∙ c.in_ok-points.ensures.fives ∙ ap (five_points g.R.Rule.KIND b) side in
    record {
      block = sym (some-first (five g.R.Rule.KIND b (other (mover b))) (points_of b) c.as_slice.result.now nowhere points
          c.in-len1-up.len_at_least);
    }
