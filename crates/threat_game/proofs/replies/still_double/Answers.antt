use Rattle.std.proofs.Common.{◌≡◌, true, false, sym, ap, subst, ◌∙◌, All, get_or}
use Rattle.std.proofs.lemmas.List.{take_all}
use Rattle.std.proofs.lemmas.List.Elements.{All-more}
use Rattle.std.proofs.lemmas.Bool.{false≢true}
use Rattle.game_rules.proofs.Common.{Grid, outcome, mover, other, has_five, goes_on}
use Rattle.game_rules.specs.declared.Outcome.TheVariants.{GoesOn}
use Rattle.game_rules.specs.declared.Point.{Point}
use Rattle.game_rules.specs.declared.RuleKind.{RuleKind}
use Rattle.threat_game.specs.declared.doubles.Kept.{Kept}
use Rattle.game_rules.proofs.Outcomes.{goes_on-is}
use Rattle.threat_game.proofs.Common.{IsBeside, IsDoubleWin, IsStillKept, answer_nodes}
use Rattle.threat_game.proofs.replies.still_double.Goals.{else-is_beside-via-then-is_beside+else-still_goes_on}
use Rattle.threat_game.proofs.replies.still_double.Goals.{else-is_beside-via-else-is_beside}
use Rattle.threat_game.proofs.replies.still_double.Goals as goal

-- the double point that stands where none is
abbrev corner : Point
corner = record { x = 0; y = 0 }

abbrev none : Kept
none = record { double = record { at = corner; first = corner; second = corner }; sure = false }

abbrev IsStopped : RuleKind → Grid → Point → Kept → Type 0
IsStopped rule b q kept = IsBeside kept.double q → ¬ (outcome rule b kept.double.at ≡ GoesOn)

-- a double point that is kept still, and goes on at a view that is as before, wins
wins : (rule : RuleKind) (b v : Grid) (kept : Kept) → v ≡ b → has_five rule b (other (mover b)) ≡ false → IsStillKept rule b kept
    → goes_on (outcome rule v kept.double.at) ≡ true → IsDoubleWin rule b kept.double
wins rule b v kept same safe is on = record {
  on = ap (λ (w : Grid). outcome rule w kept.double.at) (sym same) ∙ goes_on-is (outcome rule v kept.double.at) on;
  both = is.both;
  safe = safe;
}

pub still_goes_on-requires-clause-none : goal.still_goes_on-requires-clause-none
still_goes_on-requires-clause-none g c =
    ap (λ (b : Grid). has_five g.R.Rule.KIND b (mover b)) c.loop-kept.invariant.same ∙ c.requires.none

pub still_goes_on-requires-clause-kept : goal.still_goes_on-requires-clause-kept
still_goes_on-requires-clause-kept g c =
    subst (λ (b : Grid). IsStillKept g.R.Rule.KIND b (get_or c.args.doubles.now c.loop-kept.kept-index none))
    (sym c.loop-kept.invariant.same)
    (c.requires.doubles c.loop-kept.kept-index none c.loop-kept-test.true (sym c.is_beside.ensures.beside ∙ c.if-is_beside.true))

pub answers_to_win-nodes-requires : goal.answers_to_win-nodes-requires
answers_to_win-nodes-requires g c =
    let kept : Kept = get_or c.args.doubles.now c.loop-kept.kept-index none in
    record {
      wins = subst (λ (b : Grid). IsDoubleWin g.R.Rule.KIND b kept.double)
          (sym (c.still_goes_on.ensures.same ∙ c.loop-kept.invariant.same))
          (wins g.R.Rule.KIND (g.V.Seen.position c.args.view.now) (g.V.Seen.position c.loop-kept.view) kept c.loop-kept.invariant.same
          c.requires.safe
          (c.requires.doubles c.loop-kept.kept-index none c.loop-kept-test.true (sym c.is_beside.ensures.beside ∙ c.if-is_beside.true))
          (sym c.still_goes_on.ensures.on ∙ c.if-still_goes_on.true));
    }

pub returns-then-still_goes_on-clause-judged : goal.returns-then-still_goes_on-clause-judged
returns-then-still_goes_on-clause-judged g c =
    let kept : Kept = get_or c.args.doubles.now c.loop-kept.kept-index none in
    record {
      no_five = c.requires.none;
      wins = wins g.R.Rule.KIND (g.V.Seen.position c.args.view.now) (g.V.Seen.position c.loop-kept.view) kept c.loop-kept.invariant.same
          c.requires.safe
          (c.requires.doubles c.loop-kept.kept-index none c.loop-kept-test.true (sym c.is_beside.ensures.beside ∙ c.if-is_beside.true))
          (sym c.still_goes_on.ensures.on ∙ c.if-still_goes_on.true);
      nodes_are = c.answers_to_win-nodes.ensures.nodes
          ∙ ap (λ (b : Grid). answer_nodes g.R.Rule.KIND b kept.double) (c.still_goes_on.ensures.same ∙ c.loop-kept.invariant.same);
    }

pub loop-kept-preserved : goal.loop-kept-preserved
loop-kept-preserved g c = elim c.else-is_beside.branch [
  | else-is_beside-via-then-is_beside+else-still_goes_on w ↦ record {
    same = ap g.V.Seen.position w.view-is ∙ w.still_goes_on.ensures.same ∙ c.loop-kept.invariant.same;
    stopped = All-more (IsStopped g.R.Rule.KIND (g.V.Seen.position c.args.view.now) c.args.q) c.args.doubles.now
        c.loop-kept.kept-index none c.loop-kept-test.true c.loop-kept.invariant.stopped
        (λ beside on. false≢true (sym w.if-still_goes_on.false ∙ w.still_goes_on.ensures.on
        ∙ ap (λ (b : Grid). goes_on (outcome g.R.Rule.KIND b (get_or c.args.doubles.now c.loop-kept.kept-index none).double.at))
        c.loop-kept.invariant.same ∙ ap goes_on on));
  }
  | else-is_beside-via-else-is_beside w ↦ record {
    same = ap g.V.Seen.position w.view-is ∙ c.loop-kept.invariant.same;
    stopped = All-more (IsStopped g.R.Rule.KIND (g.V.Seen.position c.args.view.now) c.args.q) c.args.doubles.now
        c.loop-kept.kept-index none c.loop-kept-test.true c.loop-kept.invariant.stopped
        (λ beside on. false≢true (sym w.if-is_beside.false ∙ c.is_beside.ensures.beside ∙ beside));
  }
]

pub returns-clause-stops : goal.returns-clause-stops
returns-clause-stops g c = λ is. record {
  each = subst (All (IsStopped g.R.Rule.KIND (g.V.Seen.position c.args.view.now) c.args.q))
      (take_all c.loop-kept.kept-index c.args.doubles.now c.loop-kept-test.false) c.loop-kept.invariant.stopped;
}
