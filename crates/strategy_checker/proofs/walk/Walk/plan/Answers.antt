use Rattle.std.proofs.Common.{◌≡◌, ◌+◌, ◌<◌, ℕ, cond, sym, ap, subst, ◌∙◌, arith, Option, IfSome, Some, sum_by}
use Rattle.std.proofs.lemmas.Result.{err_from_is_err_and}
use Rattle.strategy_checker.proofs.Common.{Grid, empties_of, RuleKind, Answers, rest_node, arrivals, arrivals_after, arrivals_at, Sure}
use Rattle.strategy_checker.proofs.Common.{Walk, IsSure, AreMet, IsWhole, owed, to_ask}
use Rattle.strategy_checker.proofs.Counted.{arrivals-most, is_listed}
use Rattle.strategy_checker.proofs.Courses.{apart-arrivals, apart-met, whole-owes}
use Rattle.strategy_checker.proofs.Walking.{taken-ready}
use Rattle.strategy_checker.proofs.walk.Walk.plan.Goals as goal

pub returns-in_err-take-in-Some-clause-planned : goal.returns-in_err-take-in-Some-clause-planned
returns-in_err-take-in-Some-clause-planned g c =
    let rule : RuleKind = g.R.Rule.KIND in
    let b : Grid = c.args.position.now in
    let is : IsSure rule c.args.table.now b c.in-Some.sure =
    subst (λ (o : Option Sure). IfSome o (IsSure rule c.args.table.now b)) c.in-Some.is c.requires.outlook.sure in
    let to : rest_node c.args.rest ≡ Some c.in-Some.sure.node =
    subst (λ (o : Option Sure). IfSome o (λ s. rest_node c.args.rest ≡ Some s.node)) c.in-Some.is c.requires.rest in
    let all = arrivals-most rule c.args.table.now b c.args.replies.now c.args.rest c.in-Some.sure c.requires.ready.lawful is to
    c.requires.rising in
    let count = c.others_going_on-others.ensures.count in
    let short = c.in_err-take-in-Some.ensures.takes.1 in
    let p = err_from_is_err_and c.from_residual.result c.from_residual.ensures.1 in
    rw (p.1, p.2) (c.in_err-take-in-Some.ensures.takes.0, omega (arith, all, count, short))

pub returns-in_ok-take-in-Some-clause-planned : goal.returns-in_ok-take-in-Some-clause-planned
returns-in_ok-take-in-Some-clause-planned g c =
    let rule : RuleKind = g.R.Rule.KIND in
    let b : Grid = c.args.position.now in
    let rs = c.args.replies.now in
    let a : Answers = record { replies = rs; rest = c.args.rest } in
    let is : IsSure rule c.args.table.now b c.in-Some.sure =
    subst (λ (o : Option Sure). IfSome o (IsSure rule c.args.table.now b)) c.in-Some.is c.requires.outlook.sure in
    let to : rest_node c.args.rest ≡ Some c.in-Some.sure.node =
    subst (λ (o : Option Sure). IfSome o (λ s. rest_node c.args.rest ≡ Some s.node)) c.in-Some.is c.requires.rest in
    let behind : ℕ = sum_by (λ r. arrivals_at rule a (arrivals rule c.args.table.now) b r.at) rs
    + cond (is_listed rs c.in-Some.sure.attack) 0 (arrivals_at rule a (arrivals rule c.args.table.now) b c.in-Some.sure.attack) in
    let all : arrivals_after rule a (arrivals rule c.args.table.now) b ≡ c.others_going_on-others.result + behind =
    arrivals-most rule c.args.table.now b rs c.args.rest c.in-Some.sure c.requires.ready.lawful is to c.requires.rising
    ∙ ap (λ (n : ℕ). n + behind) (sym c.others_going_on-others.ensures.count) in
    let apart = apart-arrivals rule c.args.table.now b rs c.args.rest c.requires.rising c.in-Some.sure c.requires.ready.lawful is to
    c.others_going_on-others.result all in
    let course = c.apart_course.ensures.course in
    let these = ap (owed rule c.args.table.now a b) course in
    let took = ap (λ (w : Walk). w.left) c.in_ok-take-in-Some.ensures.takes in
    let count = c.empties.ensures.empties in
    let some = c.if-empties-gt1.true in
    let same = ap empties_of c.board.ensures.board in
    let more : 1 < empties_of b = omega (arith, count, some, same) in
    record {
      counted = omega (arith, apart, these, took);
      met = λ met. apart-met rule c.args.table.now b rs c.args.rest c.requires.rising c.in-Some.sure c.requires.ready.lawful is to
          (c.requires.outlook.free c.if-outlook.true) more (subst (AreMet rule c.args.table.now a b) course met);
      ready = taken-ready rule c.args.table.now b c.others_going_on-others.result c.args.self.now c.take.new.self c.requires.ready
          c.in_ok-take-in-Some.ensures.takes;
    }

pub returns-in_default-clause-planned : goal.returns-in_default-clause-planned
returns-in_default-clause-planned g c =
    whole-owes g.R.Rule.KIND c.args.table.now c.args.position.now c.args.replies.now c.args.rest c.requires.rising
    c.requires.ready.lawful.board (to_ask c.args.replies.now c.whole_course.result) c.args.self.now c.requires.ready
    (subst (λ (w : Grid). IsWhole w c.args.replies.now (to_ask c.args.replies.now c.whole_course.result)) c.board-in_default.ensures.board
    c.whole_course.ensures.course)
