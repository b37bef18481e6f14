use Rattle.std.proofs.Common.{rules, ◌≡◌}
use Rattle.game_rules.proofs.Common.{Grid}
use Rattle.strategy_compiler.proofs.Growing.{win-within, writes-fails, writes-tells}
use Rattle.strategy_compiler.proofs.Standing.{compiled-lower}
use Rattle.line_proof.proofs.Doubling.{hint-grown}
use Rattle.line_proof.proofs.Steps.{five-few, five-quick}
use Rattle.line_proof.proofs.proof.quick_reply.Goals as goal

pub returns-in_err-win-clause-writes : goal.returns-in_err-win-clause-writes
returns-in_err-win-clause-writes g c =
    writes-fails _ _ _ _ _ _ c.in_err-win.ensures.writes
    (five-few g.R.Rule.KIND (g.V.Seen.position c.args.view.now) c.args.moves c.requires.some) (search rules)

pub returns-in-Some-clause-found : goal.returns-in-Some-clause-found
returns-in-Some-clause-found g c =
    let five = rw c.in-Some.is at c.in_ok-win.ensures.wins in
    let one = rw c.in-Some.is at c.in_ok-win.ensures.win in (
      five-quick _ _ _ c.requires.some five,
      win-within _ 1 _ _ _ _ c.requires.some one,
    )

pub returns-in-Some-clause-hint : goal.returns-in-Some-clause-hint
returns-in-Some-clause-hint g c =
    let b : Grid = g.V.Seen.position c.args.view.now in
    hint-grown b.width b.height _ _ _ _ (compiled-lower _ c.requires.compiled) c.in_ok-win.ensures.writes.grows c.requires.hint

pub returns-in-Some-clause-writes : goal.returns-in-Some-clause-writes
returns-in-Some-clause-writes g c =
    writes-tells _ _ _ _ _ _ c.in_ok-win.ensures.writes
    (five-few g.R.Rule.KIND (g.V.Seen.position c.args.view.now) c.args.moves c.requires.some)

pub quick_double-requires-clause-hint : goal.quick_double-requires-clause-hint
quick_double-requires-clause-hint g c = rw (c.in_ok-win.ensures.none c.in-None.is) c.requires.hint

pub returns-in-None-clause-found : goal.returns-in-None-clause-found
returns-in-None-clause-found g c = rw (c.in_ok-win.ensures.none c.in-None.is) at c.quick_double.ensures.found

pub returns-in-None-clause-writes : goal.returns-in-None-clause-writes
returns-in-None-clause-writes g c = rw (c.in_ok-win.ensures.none c.in-None.is) at c.quick_double.ensures.writes
