use Rattle.std.proofs.Common.{rules, ◌≡◌, true, ap, ◌∙◌, sym, arith}
use Rattle.game_rules.proofs.Common.{Grid, five, mover}
use Rattle.game_rules.proofs.Outcomes.{five-outcome}
use Rattle.strategy_compiler.proofs.Growing.{writes-fails, writes-tells}
use Rattle.line_proof.proofs.Doubling.{five-found}
use Rattle.line_proof.proofs.fives.five_win.Goals as goal

pub returns-in_err-node-in-Some-clause-writes : goal.returns-in_err-node-in-Some-clause-writes
returns-in_err-node-in-Some-clause-writes g c =
    let b : Grid = g.V.Seen.position c.args.view.now in
    let there : five g.R.Rule.KIND b (mover b) c.in-Some.point ≡ true =
    sym (ap (λ s. five g.R.Rule.KIND b s c.in-Some.point) c.side-attacker.ensures.side)
    ∙ c.is_five.ensures.five c.if-not-is_five.false in
    rw (five-found g.R.Rule.KIND b c.in-Some.point there)
    (writes-fails _ _ 1 1 _ _ c.in_err-node-in-Some.ensures.writes (omega arith) (search rules))

pub returns-in_ok-node-in-Some-clause-writes : goal.returns-in_ok-node-in-Some-clause-writes
returns-in_ok-node-in-Some-clause-writes g c =
    let b : Grid = g.V.Seen.position c.args.view.now in
    let there : five g.R.Rule.KIND b (mover b) c.in-Some.point ≡ true =
    sym (ap (λ s. five g.R.Rule.KIND b s c.in-Some.point) c.side-attacker.ensures.side)
    ∙ c.is_five.ensures.five c.if-not-is_five.false in
    rw (five-found g.R.Rule.KIND b c.in-Some.point there) (writes-tells _ _ 1 1 _ _ c.in_ok-node-in-Some.ensures.writes (omega arith))

pub returns-in_ok-node-in-Some-clause-win : goal.returns-in_ok-node-in-Some-clause-win
returns-in_ok-node-in-Some-clause-win g c =
    let b : Grid = g.V.Seen.position c.args.view.now in
    let there : five g.R.Rule.KIND b (mover b) c.in-Some.point ≡ true =
    sym (ap (λ s. five g.R.Rule.KIND b s c.in-Some.point) c.side-attacker.ensures.side) ∙ c.is_five.ensures.five c.if-not-is_five.false in
    c.in_ok-node-in-Some.ensures.wins g.R.Rule.KIND b (five-outcome _ _ _ there)

pub returns-in_ok-node-in-Some-clause-wins : goal.returns-in_ok-node-in-Some-clause-wins
returns-in_ok-node-in-Some-clause-wins g c =
    let b : Grid = g.V.Seen.position c.args.view.now in
    let there : five g.R.Rule.KIND b (mover b) c.in-Some.point ≡ true =
    sym (ap (λ s. five g.R.Rule.KIND b s c.in-Some.point) c.side-attacker.ensures.side)
    ∙ c.is_five.ensures.five c.if-not-is_five.false in
    five-found g.R.Rule.KIND b c.in-Some.point there
