use Rattle.std.proofs.Common.{rules, ◌≡◌, ◌≤◌, arith}
use Rattle.game_rules.proofs.Common.{Grid}
use Rattle.strategy_compiler.proofs.Growing.{win-within, writes-fails, writes-tells}
use Rattle.strategy_compiler.proofs.Standing.{compiled-lower}
use Rattle.line_proof.proofs.Doubling.{hint-grown}
use Rattle.line_proof.proofs.Steps.{double-few, double-quick, on-ok}
use Rattle.line_proof.proofs.proof.quick_double.Goals as goal

pub returns-then-moves-lt2-clause-hint : goal.returns-then-moves-lt2-clause-hint
returns-then-moves-lt2-clause-hint g c =
    let b : Grid = g.V.Seen.position c.args.view.now in
    on-ok _ (hint-grown b.width b.height _ _ _ _ (compiled-lower _ c.requires.compiled) c.quick_win.ensures.writes.grows c.requires.hint)

pub returns-in_err-win-clause-writes : goal.returns-in_err-win-clause-writes
returns-in_err-win-clause-writes g c =
    let more : 2 ≤ c.args.moves = let l = c.if-moves-lt2.false in omega (arith, l) in
    writes-fails _ _ _ _ _ _ c.in_err-win.ensures.writes (double-few _ _ _ more) (search rules)

pub returns-in-Some-clause-found : goal.returns-in-Some-clause-found
returns-in-Some-clause-found g c =
    let more : 2 ≤ c.args.moves = let l = c.if-moves-lt2.false in omega (arith, l) in
    let wins = rw c.in-Some.is at c.in_ok-win.ensures.wins in
    let two = rw c.in-Some.is at c.in_ok-win.ensures.win in (
      double-quick _ _ _ more wins,
      win-within _ 2 _ _ _ _ more two,
    )

pub returns-in-Some-clause-writes : goal.returns-in-Some-clause-writes
returns-in-Some-clause-writes g c =
    let more : 2 ≤ c.args.moves = let l = c.if-moves-lt2.false in omega (arith, l) in
    writes-tells _ _ _ _ _ _ c.in_ok-win.ensures.writes (double-few _ _ _ more)

pub returns-in-None-clause-hint : goal.returns-in-None-clause-hint
returns-in-None-clause-hint g c =
    let b : Grid = g.V.Seen.position c.args.view.now in
    on-ok _ (hint-grown b.width b.height _ _ _ _ (compiled-lower _ c.in_ok-win.ensures.writes.compiled)
    c.quick_win-in-None.ensures.writes.grows c.in_ok-win.ensures.hint)

pub returns-in-None-clause-found : goal.returns-in-None-clause-found
returns-in-None-clause-found g c =
    rw (← c.in_ok-win.ensures.same) (rw (c.in_ok-win.ensures.none c.in-None.is) at c.quick_win-in-None.ensures.found)

pub returns-in-None-clause-writes : goal.returns-in-None-clause-writes
returns-in-None-clause-writes g c =
    rw (← c.in_ok-win.ensures.same) (rw (c.in_ok-win.ensures.none c.in-None.is) at c.quick_win-in-None.ensures.writes)
