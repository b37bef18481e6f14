use Rattle.std.proofs.Common.{ap, sym, refl, ◌∙◌, find}
use Rattle.threat_space.proofs.Common.{is_sequence}
use Rattle.threat_space.proofs.BarrenLists.{first-among, found-here, found-later, not-needed}
use Rattle.threat_space.proofs.needs.finals_of.Goals as goal

pub loop-p-init : goal.loop-p-init
loop-p-init g c =
    let points = c.into_iter-p-iterator.ensures.into_iter_gives ∙ c.points-p-items.ensures.points in
    record {
      same = refl;
      first = first-among _ _ _ _ _ _ _ c.requires.played c.pair_points-may_make.ensures.pairs points;
      none = λ barren start us alike is. first-among _ _ _ _ _ _ _ is c.pair_points-may_make.ensures.pairs points;
    }

pub returns-then-branch-clause-least : goal.returns-then-branch-clause-least
returns-then-branch-clause-least g c =
    found-here _ _ _ _ _ _ _ _ (c.loop-p.invariant.same ∙ c.requires.played) c.in-Some.ensures.steps
    (c.can_end.ensures.ends c.if-can_end.true) (sym c.in_ok-all_needed.ensures.needed ∙ c.if-branch.true) _ c.loop-p.invariant.first

pub loop-p-preserved-else-branch : goal.loop-p-preserved-else-branch
loop-p-preserved-else-branch g c = record {
  same = c.can_end.ensures.same ∙ c.loop-p.invariant.same;
  first = found-later _ _ _ _ _ _ _ c.in-Some.ensures.steps
      (not-needed _ _ _ _ _ (sym c.in_ok-all_needed.ensures.needed ∙ c.if-branch.false)) _ c.loop-p.invariant.first;
  none = λ barren. cc;
}

pub returns-clause-barren : goal.returns-clause-barren
returns-clause-barren g c barren start us alike is =
    sym (c.loop-p.invariant.none barren start us alike is)
    ∙ ap (find (is_sequence g.R.Rule.KIND c.args.side start us)) c.in-None.ensures.steps.0
