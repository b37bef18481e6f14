use Rattle.std.proofs.Common.{◌++◌, List, filter, ap, ◌∙◌}
use Rattle.threat_moves.proofs.FarStones.{filter-among}
use Rattle.threat_space.proofs.Common.{Point, may_make_two}
use Rattle.threat_space.proofs.pairs.all_pairs.Goals as goal

pub loop-p-init : goal.loop-p-init
loop-p-init g c =
    ap (λ (ps : List Point). ps ++ filter (may_make_two g.R.Rule.KIND c.args.board.now c.args.side) c.into_iter-p-iterator.result)
    c.new-found.ensures.empty
    ∙ ap (filter (may_make_two g.R.Rule.KIND c.args.board.now c.args.side))
    (c.into_iter-p-iterator.ensures.into_iter_gives ∙ c.points-p-items.ensures.points)
    ∙ filter-among _ _ c.pair_points-may_make.ensures.pairs _
