use Rattle.std.proofs.Common.{◌≡◌, true, false, ap, sym, subst, refl, ◌∙◌, arith, IfOk}
use Rattle.game_rules.proofs.Common.{Grid, has_five, outcome, mover, other, after}
use Rattle.game_rules.specs.declared.Outcome.TheVariants.{GoesOn}
use Rattle.game_rules.proofs.Outcomes.{goes_on-is}
use Rattle.open_windows.specs.PointSets.{TellsWindows}
use Rattle.threat_game.proofs.Common.{AreKept, IsJudgement}
use Rattle.threat_game.specs.declared.replies.Judged.TheVariants.{Five}
use Rattle.threat_game.proofs.ReplyLaws.{first-beside, none-beside, child-is}
use Rattle.threat_game.proofs.replies.judge.Goals as goal

pub returns-in-Some-clause-judgement : goal.returns-in-Some-clause-judgement
returns-in-Some-clause-judgement g c =
    let b : Grid = g.V.Seen.position c.args.view.now in
    let on : outcome g.R.Rule.KIND b c.args.q ≡ GoesOn =
    goes_on-is (outcome g.R.Rule.KIND b c.args.q) (sym c.goes_on_where.ensures.on ∙ c.if-not-goes_on_where.false) in
    child-is g.R.Rule.KIND c.args.moves b c.args.q on (after b c.args.q) (Five c.in-Some.five) 1 refl
    (first-beside g.R.Rule.KIND b c.args.q c.requires.lawful on c.args.known.fives.now c.in-Some.five c.requires.fives
    c.in-Some.ensures.beside)
    (omega arith) c.requires.some_moves (λ (e : false ≡ true). cc)

pub judge_quiet-requires-clause-no_five : goal.judge_quiet-requires-clause-no_five
judge_quiet-requires-clause-no_five g c = ap (λ (b : Grid). has_five g.R.Rule.KIND b (mover b)) c.goes_on_where.ensures.same
    ∙ c.requires.no_five

pub judge_quiet-requires-clause-on : goal.judge_quiet-requires-clause-on
judge_quiet-requires-clause-on g c =
    let b : Grid = g.V.Seen.position c.args.view.now in
    ap (λ (w : Grid). outcome g.R.Rule.KIND w c.args.q) c.goes_on_where.ensures.same
    ∙ goes_on-is (outcome g.R.Rule.KIND b c.args.q) (sym c.goes_on_where.ensures.on ∙ c.if-not-goes_on_where.false)

pub judge_quiet-requires-clause-none : goal.judge_quiet-requires-clause-none
judge_quiet-requires-clause-none g c =
    let b : Grid = g.V.Seen.position c.args.view.now in
    let on : outcome g.R.Rule.KIND b c.args.q ≡ GoesOn =
    goes_on-is (outcome g.R.Rule.KIND b c.args.q) (sym c.goes_on_where.ensures.on ∙ c.if-not-goes_on_where.false) in
    ap (λ (w : Grid). has_five g.R.Rule.KIND (after w c.args.q) (mover (after w c.args.q))) c.goes_on_where.ensures.same
    ∙ none-beside g.R.Rule.KIND b c.args.q c.requires.lawful on c.args.known.fives.now c.requires.fives c.in-None.ensures.beside

pub judge_quiet-requires-clause-doubles : goal.judge_quiet-requires-clause-doubles
judge_quiet-requires-clause-doubles g c =
    subst (λ (b : Grid). AreKept g.R.Rule.KIND b (other (mover b)) c.args.known.doubles.now) (sym c.goes_on_where.ensures.same)
    c.requires.doubles

pub judge_quiet-requires-clause-copy : goal.judge_quiet-requires-clause-copy
judge_quiet-requires-clause-copy g c = c.requires.copy ∙ sym c.goes_on_where.ensures.same

pub returns-in-None-clause-judgement : goal.returns-in-None-clause-judgement
returns-in-None-clause-judgement g c =
    subst (λ (b : Grid). IfOk c.judge_quiet.result (IsJudgement g.R.Rule.KIND c.args.moves b c.args.q)) c.goes_on_where.ensures.same
    c.judge_quiet.ensures.judgement

pub judge_quiet-requires-clause-windows : goal.judge_quiet-requires-clause-windows
judge_quiet-requires-clause-windows g c =
    subst (λ (b : Grid). TellsWindows b (mover b) 3 c.args.known.windows.now) (sym c.goes_on_where.ensures.same) c.requires.windows
