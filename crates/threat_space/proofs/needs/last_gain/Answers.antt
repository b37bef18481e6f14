use Rattle.std.proofs.Common.{◌<◌, length, sym, ap, ◌∙◌, arith}
use Rattle.threat_space.proofs.Common.{Threat}
use Rattle.threat_space.proofs.BarrenLists.{near-after}
use Rattle.threat_space.proofs.needs.last_gain.Goals as goal

pub returns : goal.returns
returns g c =
    let some : 0 < length c.args.threats.now = omega arith in
    let gain = ap (λ (t : Threat). t.gain) c.index-threats-count.is in
    record {
      last = record { last = c.index-threats-count.result; some = some; place = c.index-threats-count.is; gain = gain };
      near = rw gain at (near-after _ _ _ _ _ _ c.is_empty.ensures.board some c.index-threats-count.is
          (sym c.requires.five ∙ c.if-some_five.false) c.requires.far);
    }
