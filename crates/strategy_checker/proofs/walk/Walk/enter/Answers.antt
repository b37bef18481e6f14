use Rattle.std.proofs.Common.{◌≡◌, ◌<◌, ℕ, reverse, refl, sym, ap, subst, ◌∙◌, arith}
use Rattle.std.proofs.lemmas.Result.{err_from_is_err_and}
use Rattle.strategy_checker.proofs.Common.{Grid, outcome, Wins, RuleKind, lent_node, Accepted, arrivals, Leads, Walk, Stopped}
use Rattle.strategy_graph.specs.declared.Why.TheVariants.{NotWon}
use Rattle.strategy_graph.proofs.Filling.{IsTable-lower}
use Rattle.strategy_graph.proofs.Steps.{arrivals-positive, accepted-by-win, arrivals-one}
use Rattle.strategy_checker.proofs.Stages.{entered-stops}
use Rattle.strategy_checker.proofs.Walking.{taken-ready, taken-short}
use Rattle.strategy_checker.proofs.walk.Walk.enter.Goals as goal

pub returns-in-Some-clause-fewer : goal.returns-in-Some-clause-fewer
returns-in-Some-clause-fewer g c =
    let took = ap (λ (w : Walk). w.left) c.in_ok-take.ensures.takes in
    let some = arrivals-positive g.R.Rule.KIND c.args.table.now c.args.i c.args.position.now in
    let counted = c.in-Some.ensures.found.counted in
    let left = c.look.ensures.left in
    omega (arith, took, some, counted, left)

pub returns-in_err-take-in-Wins-clause-entered : goal.returns-in_err-take-in-Wins-clause-entered
returns-in_err-take-in-Wins-clause-entered g c =
    let rule : RuleKind = g.R.Rule.KIND in
    let b : Grid = c.args.position.now in
    let n : ℕ = arrivals rule c.args.table.now c.args.i b in
    let p = err_from_is_err_and c.from_residual-in_err-take-in-Wins.result c.from_residual-in_err-take-in-Wins.ensures.1 in
    rw (p.1, p.2) (
      subst (λ (k : ℕ). Stopped (λ w. Leads rule c.args.table.now c.args.i b (reverse c.take-in-Wins.new.self.line) w) (k < n)
          c.in_err-take-in-Wins.field-0.0) c.look.ensures.left
          (taken-short rule c.args.table.now (Accepted rule c.args.table.now c.args.i b) 1 n (Leads rule c.args.table.now c.args.i b)
          c.look.new.self c.take-in-Wins.new.self c.in_err-take-in-Wins.field-0.0
          (arrivals-positive rule c.args.table.now c.args.i b) c.in_err-take-in-Wins.ensures.takes),
      c.in-Wins.ensures.same,
    )

pub returns-then-is_winning-clause-entered : goal.returns-then-is_winning-clause-entered
returns-then-is_winning-clause-entered g c = (
  entered-stops g.R.Rule.KIND c.args.table.now c.args.i c.args.position.now {why = NotWon} c.look.new.self c.fault-then-is_winning.new.self
      c.fault-then-is_winning.result c.look.ensures.left c.node-node.ensures.node c.in-GoesOn.ensures.outcome
      (rw (sym c.is_winning.ensures.wins ∙ c.if-is_winning.true)) c.look.ensures.ready.no_line c.fault-then-is_winning.ensures.noted,
  c.in-GoesOn.ensures.same,
)

pub returns-in-Refused-clause-entered : goal.returns-in-Refused-clause-entered
returns-in-Refused-clause-entered g c = (
  entered-stops g.R.Rule.KIND c.args.table.now c.args.i c.args.position.now c.look.new.self c.fault.new.self c.fault.result
      c.look.ensures.left c.node-node.ensures.node c.in-Refused.ensures.outcome refl c.look.ensures.ready.no_line c.fault.ensures.noted,
  c.in-Refused.ensures.same,
)

pub returns-in_ok-take-in-Wins-clause-entered : goal.returns-in_ok-take-in-Wins-clause-entered
returns-in_ok-take-in-Wins-clause-entered g c =
    let rule : RuleKind = g.R.Rule.KIND in
    let b : Grid = c.args.position.now in
    let lower = IsTable-lower c.args.table.now c.node-node.ensures.table in
    let won : outcome rule b c.node-node.result.attack ≡ Wins = sym c.in-Wins.ensures.outcome in
    let one = arrivals-one rule c.args.table.now lower c.args.i b (lent_node c.node-node.result) c.node-node.ensures.node Wins won
    (λ e. cc) in
    let took = ap (λ (w : Walk). w.left) c.in_ok-take-in-Wins.ensures.takes in
    let left = c.look.ensures.left in (
      record {
        accepted = accepted-by-win rule c.args.table.now lower c.args.i b (lent_node c.node-node.result) c.node-node.ensures.node won;
        counted = omega (arith, one, took, left);
        ready = taken-ready rule c.args.table.now b 1 c.look.new.self c.take-in-Wins.new.self c.look.ensures.ready
            c.in_ok-take-in-Wins.ensures.takes;
      },
      c.in-Wins.ensures.same,
    )

pub returns-in-Fouls-clause-entered : goal.returns-in-Fouls-clause-entered
returns-in-Fouls-clause-entered g c = (
  entered-stops g.R.Rule.KIND c.args.table.now c.args.i c.args.position.now c.look.new.self c.fault-in-Fouls.new.self
      c.fault-in-Fouls.result c.look.ensures.left c.node-node.ensures.node c.in-Fouls.ensures.outcome refl c.look.ensures.ready.no_line
      c.fault-in-Fouls.ensures.noted,
  c.in-Fouls.ensures.same,
)

pub returns-in-Draws-clause-entered : goal.returns-in-Draws-clause-entered
returns-in-Draws-clause-entered g c = (
  entered-stops g.R.Rule.KIND c.args.table.now c.args.i c.args.position.now c.look.new.self c.fault-in-Draws.new.self
      c.fault-in-Draws.result c.look.ensures.left c.node-node.ensures.node c.in-Draws.ensures.outcome refl c.look.ensures.ready.no_line
      c.fault-in-Draws.ensures.noted,
  c.in-Draws.ensures.same,
)
