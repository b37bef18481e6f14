use Rattle.std.proofs.Common.{◌++◌, List, refl, ap, ◌∙◌}
use Rattle.std.specs.List.{flat_map}
use Rattle.threat_space.proofs.Common.{Grid, Threat, threats_at}
use Rattle.threat_space.proofs.FoundInLists.{more-threats, window-threats}
use Rattle.threat_space.proofs.walk.all_threats.Goals as goal

pub loop-gain-init : goal.loop-gain-init
loop-gain-init g c = record {
  same = refl;
  all = ap (λ (ts : List Threat). ts ++ flat_map (threats_at g.R.Rule.KIND c.args.board.now c.args.side) c.into_iter-gain-iterator.result)
      c.new-found.ensures.empty
      ∙ ap (flat_map (threats_at g.R.Rule.KIND c.args.board.now c.args.side))
      (c.into_iter-gain-iterator.ensures.into_iter_gives ∙ c.points-gain-items.ensures.points)
      ∙ window-threats _ _ _ _ c.window_points-windows.ensures.points;
}

-- the threats of one gain more
pub loop-gain-preserved : goal.loop-gain-preserved
loop-gain-preserved g c =
    let here = c.as_slice.ensures.items ∙ c.in_ok-more.ensures.threats
    ∙ ap (λ (w : Grid). threats_at g.R.Rule.KIND w c.args.side c.in-Some.gain) c.loop-gain.invariant.same in
    record {
      same = c.threats_at.ensures.same ∙ c.loop-gain.invariant.same;
      all = more-threats _ _ _ _ _ _ c.in-Some.ensures.steps _ _
          (c.in_ok-add_copies.ensures.longer ∙ ap (λ (ts : List Threat). c.loop-gain.found ++ ts) here) ∙ c.loop-gain.invariant.all;
    }
