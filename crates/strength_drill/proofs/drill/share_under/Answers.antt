use Rattle.std.proofs.Common.{◌∙◌}
use Rattle.std.proofs.lemmas.Result.{IfOk-weaker}
use Rattle.strength_drill.proofs.Common.{Grid, DEPTH, BUDGET, Counts, ComesOf, IsShare, found_within}
use Rattle.strength_drill.proofs.DrillCounts.{share-as}
use Rattle.strength_drill.proofs.drill.share_under.Goals as goal

pub share_found-requires : goal.share_found-requires
share_found-requires g c =
    let same = c.into_position.ensures.position ∙ c.in_ok-found.ensures.same ∙ c.over-view.ensures.position in
    record {
      found = rw same (rw c.over-view.ensures.position at c.in_ok-found.ensures.found);
      wide = rw same c.in_ok-position.ensures.wide;
      high = rw same c.in_ok-position.ensures.high;
    }

pub returns-clause-share : goal.returns-clause-share
returns-clause-share g c =
    let rule = g.R.Rule.KIND in
    let b : Grid = c.in_ok-position.position in
    let s = c.drawn_position.new.draws.number in
    let u = c.share_found.new.draws.number in
    let same = c.into_position.ensures.position ∙ c.in_ok-found.ensures.same ∙ c.over-view.ensures.position in
    IfOk-weaker c.share_found.result (λ (d : Counts). ComesOf rule b (found_within DEPTH BUDGET rule b) s d u)
    (λ (d : Counts). IsShare rule c.args.draws.now.number d u)
    (λ d comes. share-as rule c.args.draws.now.number b s c.in_ok-position.ensures.position c.in_ok-position.ensures.draws d u comes)
    (rw same at c.share_found.ensures.comes)
