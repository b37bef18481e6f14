use Rattle.std.proofs.Common.{rules, ap, ◌∙◌, min}
use Rattle.game_rules.proofs.Common.{Grid, wins_by_fours}
use Rattle.strategy_compiler.proofs.Growing.{writes-fails, writes-tells}
use Rattle.line_proof.proofs.Steps.{quick-wins, quick-most}
use Rattle.line_proof.proofs.proof.prove.Goals as goal

pub returns-in_err-win-clause-writes : goal.returns-in_err-win-clause-writes
returns-in_err-win-clause-writes g c =
    writes-fails _ _ _ _ _ _ c.in_err-win.ensures.writes
    (quick-most g.R.Rule.KIND c.args.line.threats.now (g.V.Seen.position c.args.view.now) c.args.line.moves c.requires.some) (search rules)

pub returns-in-Some-clause-told : goal.returns-in-Some-clause-told
returns-in-Some-clause-told g c =
    let found = rw c.in-Some.is at c.in_ok-win.ensures.found in
    (quick-wins _ _ _ _ c.requires.some found.0, found.1)

pub returns-in-Some-clause-writes : goal.returns-in-Some-clause-writes
returns-in-Some-clause-writes g c =
    writes-tells _ _ _ _ _ _ c.in_ok-win.ensures.writes
    (quick-most g.R.Rule.KIND c.args.line.threats.now (g.V.Seen.position c.args.view.now) c.args.line.moves c.requires.some)

pub prove_slow-requires-clause-slow : goal.prove_slow-requires-clause-slow
prove_slow-requires-clause-slow g c =
    let found = rw c.in-None.is at c.in_ok-win.ensures.found in
    ap (λ (w : Grid). wins_by_fours g.R.Rule.KIND (min c.args.line.moves 2) w) c.in_ok-win.ensures.same ∙ found.0

pub returns-in-None-clause-told : goal.returns-in-None-clause-told
returns-in-None-clause-told g c = rw c.in_ok-win.ensures.same at c.prove_slow.ensures.told

pub returns-in-None-clause-writes : goal.returns-in-None-clause-writes
returns-in-None-clause-writes g c =
    let found = rw c.in-None.is at c.in_ok-win.ensures.found in
    rw (← found.1) (rw c.in_ok-win.ensures.same at c.prove_slow.ensures.writes)
