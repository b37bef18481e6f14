use Rattle.std.proofs.Common.{◌≡◌, ℕ, arith, sym, ap, subst, ◌∙◌}
use Rattle.game_rules.specs.Grid.{Grid}
use Rattle.strength_drill.specs.Draws.{number_after, board_drawn}
use Rattle.strength_drill.proofs.DrillMaking.{board-none, number-none, board-more, number-more, board-wide, board-high}
use Rattle.strength_drill.proofs.positions.drawn_position.Goals as goal

pub loop-init : goal.loop-init
loop-init g c = record {
  number = sym (number-none c.args.draws.now.number);
  position = c.new-position.ensures.position ∙ c.in_ok-empty.ensures.empty ∙ sym (board-none g.R.Rule.KIND c.args.draws.now.number);
}

pub loop-preserved : goal.loop-preserved
loop-preserved g c = record {
  number = number-more c.args.draws.now.number c.loop.counter c.loop.draws.number c.draw.new.self.number c.loop.invariant.number
      c.draw.ensures.next;
  position = board-more g.R.Rule.KIND c.args.draws.now.number c.loop.counter c.loop.draws.number c.draw.new.self.number c.loop.position
      c.play_if_going_on.new.position
      c.draw.result c.middle_point-p.result c.loop.invariant.position c.loop.invariant.number c.draw.ensures.next c.draw.ensures.drawn
      c.middle_point-p.ensures.point c.play_if_going_on.ensures.played;
}

pub returns-clause-wide : goal.returns-clause-wide
returns-clause-wide g c = ap (λ (b : Grid). b.width) c.loop.invariant.position
    ∙ board-wide g.R.Rule.KIND c.args.draws.now.number c.loop.counter

pub returns-clause-high : goal.returns-clause-high
returns-clause-high g c = ap (λ (b : Grid). b.height) c.loop.invariant.position
    ∙ board-high g.R.Rule.KIND c.args.draws.now.number c.loop.counter

pub returns-clause-position : goal.returns-clause-position
returns-clause-position g c =
    let all : c.loop.counter ≡ 120 = omega arith in
    subst (λ (n : ℕ). c.loop.position ≡ board_drawn g.R.Rule.KIND c.args.draws.now.number n) all c.loop.invariant.position

pub returns-clause-draws : goal.returns-clause-draws
returns-clause-draws g c =
    let all : c.loop.counter ≡ 120 = omega arith in
    subst (λ (n : ℕ). c.loop.draws.number ≡ number_after c.args.draws.now.number n) all c.loop.invariant.number
