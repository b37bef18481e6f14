use Rattle.std.proofs.Common.{◌≡◌, true, false, ap, refl, arith}
use Rattle.game_rules.proofs.Common.{Grid, after}
use Rattle.threat_game.specs.declared.replies.Judged.TheVariants.{Last}
use Rattle.threat_game.proofs.FirstDoubles.{stops-first}
use Rattle.threat_game.proofs.ReplyLaws.{child-is, escape-is}
use Rattle.threat_game.proofs.replies.judge_quiet.Goals as goal

pub returns-in-Some-clause-judgement : goal.returns-in-Some-clause-judgement
returns-in-Some-clause-judgement g c =
    let b : Grid = g.V.Seen.position c.args.view.now in
    child-is g.R.Rule.KIND c.args.moves b c.args.q c.requires.on (after b c.args.q) (Last c.in-Some.p) 1 refl c.in-Some.ensures.last
    (omega arith) c.requires.some_moves (λ (e : false ≡ true). cc)

pub returns-in-None-clause-judgement : goal.returns-in-None-clause-judgement
returns-in-None-clause-judgement g c =
    let b : Grid = g.V.Seen.position c.args.view.now in
    escape-is g.R.Rule.KIND c.args.moves b c.args.q c.requires.on (after b c.args.q) 1 c.if-moves-eq1.true refl c.in-None.ensures.no_win

pub returns-then-branch-clause-judgement : goal.returns-then-branch-clause-judgement
returns-then-branch-clause-judgement g c =
    let b : Grid = g.V.Seen.position c.args.view.now in
    escape-is g.R.Rule.KIND c.args.moves b c.args.q c.requires.on (after (g.V.Seen.position c.judge_double-judged.new.view) c.args.q) 2
    (omega arith)
    (ap (λ (w : Grid). after w c.args.q) c.judge_double-judged.ensures.same) (c.in_ok-fails_after.ensures.no_win c.if-branch.true)

pub judge_double-judged-requires-clause-doubles : goal.judge_double-judged-requires-clause-doubles
judge_double-judged-requires-clause-doubles g c = c.requires.doubles.each

pub returns-clause-judgement : goal.returns-clause-judgement
returns-clause-judgement g c =
    let b : Grid = g.V.Seen.position c.args.view.now in
    let moves = c.if-moves-eq1.false in
    let some = c.requires.some_moves in
    child-is g.R.Rule.KIND c.args.moves b c.args.q c.requires.on (after b c.args.q) c.judge_double-judged.result 2 refl
    c.judge_double-judged.ensures.judged c.judge_double-judged.ensures.enough (omega (arith, moves, some))
    (λ open_is. stops-first g.R.Rule.KIND b c.args.q c.args.known.doubles.now c.requires.doubles
    (c.judge_double-judged.ensures.stops open_is))
