use Rattle.std.proofs.Common.{◌≡◌, sym, ap, ◌∙◌}
use Rattle.strength_drill.proofs.Common.{Grid, after, all_stones}
use Rattle.strength_drill.proofs.DrillMaking.{point-many, point-not, point-on}
use Rattle.strength_drill.proofs.positions.play_if_going_on.Goals as goal

pub returns-then-all_stones-ge-MOST_STONES : goal.returns-then-all_stones-ge-MOST_STONES
returns-then-all_stones-ge-MOST_STONES g c =
    let count : c.all_stones.result ≡ all_stones c.args.position.now = c.all_stones.ensures.stones ∙ ap all_stones c.board.ensures.board in
    record { played = sym (point-many g.R.Rule.KIND c.args.position.now c.args.p (rw count at c.if-all_stones-ge-MOST_STONES.true)) }

pub returns-in-GoesOn : goal.returns-in-GoesOn
returns-in-GoesOn g c =
    let count : c.all_stones.result ≡ all_stones c.args.position.now = c.all_stones.ensures.stones ∙ ap all_stones c.board.ensures.board in
    let few = rw count at c.if-all_stones-ge-MOST_STONES.false in
    let on = sym c.outcome.ensures.outcome ∙ c.in-GoesOn.is in
    record {
      played = c.play.ensures.played ∙ ap (λ (b : Grid). after b c.args.p) c.outcome.ensures.same
          ∙ sym (point-on g.R.Rule.KIND c.args.position.now c.args.p few on);
    }

pub returns-in_default : goal.returns-in_default
returns-in_default g c = record {
  played = c.outcome.ensures.same ∙ sym
      (point-not g.R.Rule.KIND c.args.position.now c.args.p (λ on. c.in_default.not-GoesOn (c.outcome.ensures.outcome ∙ on)));
}
