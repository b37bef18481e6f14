use Rattle.std.proofs.Common.{◌≡◌, false, ap, sym, subst, ◌∙◌, All, get_or}
use Rattle.std.proofs.lemmas.List.{take_all}
use Rattle.std.proofs.lemmas.List.Elements.{All-more}
use Rattle.game_rules.proofs.Common.{Grid}
use Rattle.game_rules.specs.declared.Point.{Point}
use Rattle.threat_game.specs.TwoMoves.{counters}
use Rattle.threat_game.proofs.escapes.none_counters.Goals as goal

-- the point that stands where none is
abbrev corner : Point
corner = record { x = 0; y = 0 }

pub loop-p-preserved : goal.loop-p-preserved
loop-p-preserved g c = record {
  same = c.counters.ensures.same ∙ c.loop-p.invariant.same;
  none = All-more (λ p. counters g.R.Rule.KIND (g.V.Seen.position c.args.view.now) c.args.threat p ≡ false) c.args.points.now
      c.loop-p.p-index corner c.loop-p-test.true c.loop-p.invariant.none
      (ap (λ (b : Grid). counters g.R.Rule.KIND b c.args.threat (get_or c.args.points.now c.loop-p.p-index corner))
      (sym c.loop-p.invariant.same) ∙ sym c.counters.ensures.counters ∙ c.if-counters.false);
}

pub returns-clause-none : goal.returns-clause-none
returns-clause-none g c = λ yes.
    subst (All (λ p. counters g.R.Rule.KIND (g.V.Seen.position c.args.view.now) c.args.threat p ≡ false))
    (take_all c.loop-p.p-index c.args.points.now c.loop-p-test.false) c.loop-p.invariant.none
