use Rattle.std.proofs.Common.{◌+◌, drop, sym, ap, ◌∙◌}
use Rattle.threat_space.proofs.Common.{Grid, with_stones}
use Rattle.threat_space.proofs.FarFinals.{put-next}
use Rattle.threat_space.proofs.boards.put_all.Goals as goal

pub loop-p-preserved : goal.loop-p-preserved
loop-p-preserved c =
    ap (λ (b : Grid). with_stones b c.args.side (drop (c.loop-p.p-index + 1) c.args.points.now)) c.put_if_empty.ensures.put
    ∙ sym (put-next _ _ _ _ c.loop-p-test.true) ∙ c.loop-p.invariant
