use Rattle.std.proofs.Common.{◌≡◌, ◌∙◌, ℕ, sym, subst, Some, IfSome, Ok, Err}
use Rattle.std.proofs.lemmas.Result.{err_from_is_err_and}
use Rattle.strategy_checker.proofs.Common.{Grid, outcome, GoesOn, RuleKind, answer, Accepted, Meets, LeadsStart, IsSure, Walked}
use Rattle.strategy_graph.proofs.Steps.{arrivals-answer, met-answer}
use Rattle.strategy_checker.proofs.Sureness.{sure-accepted}
use Rattle.strategy_checker.proofs.Walking.{taken}
use Rattle.strategy_checker.proofs.walk.Walk.ask.Goals as goal

pub returns-in_err-take-in-Some-clause-asked : goal.returns-in_err-take-in-Some-clause-asked
returns-in_err-take-in-Some-clause-asked g c = λ a answers.
    let rule : RuleKind = g.R.Rule.KIND in
    let b : Grid = c.args.position.now in
    let on : outcome rule b c.args.q ≡ GoesOn = sym c.in-GoesOn.ensures.outcome in
    let answered : answer a c.args.q ≡ Some c.in-Some.next = answers ∙ c.in-Some.is in
    let won = sure-accepted rule c.args.table.now b c.args.q c.requires.ready.lawful on c.sure_of-sure.result c.in-Some.next
    (subst (λ (w : Grid). IfSome c.sure_of-sure.result (IsSure rule c.args.table.now w)) c.outcome_of.ensures.same
    c.sure_of-sure.ensures.sure) (sym c.wins_for_sure.ensures.sure ∙ c.if-wins_for_sure.true) in
    let one = arrivals-answer rule c.args.table.now a b c.args.q c.in-Some.next on answered ∙ won.1 in
    let met = met-answer rule c.args.table.now a b c.args.q c.in-Some.next on answered won.0 in
    let p = err_from_is_err_and c.from_residual.result c.from_residual.ensures.1 in
    rw (p.1, p.2) (subst (λ (n : ℕ). Walked rule c.args.table.now (Meets rule a (Accepted rule c.args.table.now) b c.args.q) n
    (LeadsStart rule c.args.table.now a b) c.args.self.now c.take.new.self (Err c.in_err-take-in-Some.field-0.0)) (sym one)
    (taken rule c.args.table.now (Meets rule a (Accepted rule c.args.table.now) b c.args.q) 1 (LeadsStart rule c.args.table.now a b)
    c.args.self.now c.take.new.self (Err c.in_err-take-in-Some.field-0.0)
    c.requires.ready.no_line c.requires.ready.memo met c.in_err-take-in-Some.ensures.takes))

pub returns-in_ok-take-in-Some-clause-asked : goal.returns-in_ok-take-in-Some-clause-asked
returns-in_ok-take-in-Some-clause-asked g c = λ a answers.
    let rule : RuleKind = g.R.Rule.KIND in
    let b : Grid = c.args.position.now in
    let on : outcome rule b c.args.q ≡ GoesOn = sym c.in-GoesOn.ensures.outcome in
    let answered : answer a c.args.q ≡ Some c.in-Some.next = answers ∙ c.in-Some.is in
    let won = sure-accepted rule c.args.table.now b c.args.q c.requires.ready.lawful on c.sure_of-sure.result c.in-Some.next
    (subst (λ (w : Grid). IfSome c.sure_of-sure.result (IsSure rule c.args.table.now w)) c.outcome_of.ensures.same
    c.sure_of-sure.ensures.sure) (sym c.wins_for_sure.ensures.sure ∙ c.if-wins_for_sure.true) in
    let one = arrivals-answer rule c.args.table.now a b c.args.q c.in-Some.next on answered ∙ won.1 in
    let met = met-answer rule c.args.table.now a b c.args.q c.in-Some.next on answered won.0 in
    subst (λ (n : ℕ). Walked rule c.args.table.now (Meets rule a (Accepted rule c.args.table.now) b c.args.q) n
    (LeadsStart rule c.args.table.now a b) c.args.self.now c.take.new.self (Ok tt)) (sym one)
    (taken rule c.args.table.now (Meets rule a (Accepted rule c.args.table.now) b c.args.q) 1 (LeadsStart rule c.args.table.now a b)
    c.args.self.now c.take.new.self (Ok tt) c.requires.ready.no_line c.requires.ready.memo met c.in_ok-take-in-Some.ensures.takes)
