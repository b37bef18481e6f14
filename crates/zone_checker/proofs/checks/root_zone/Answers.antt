use Rattle.std.proofs.Common.{sym, subst, ◌∙◌, IfOk, MatchResult}
use Rattle.zone_checker.proofs.Common.{Answers, IsGreatest, AnswersHavePairsBy, IsWithstoodBy, Stopped, Took}
use Rattle.zone_checker.proofs.Judging.{same_start}
use Rattle.zone_checker.proofs.checks.root_zone.Goals as goal

pub returns-in-To-clause-found : goal.returns-in-To-clause-found
returns-in-To-clause-found g c =
    let start = same_start c.in-Defend.start c.as_slice.result.now c.in-To.rest
    (c.as_slice.ensures.items ∙ c.replies.ensures.listed) (sym c.rest.ensures.rest ∙ c.in-To.is) in
    rw c.in-Defend.is (subst (λ (a : Answers). MatchResult c.withstand.result
    (λ marks. IsGreatest (IsWithstoodBy g.R.Rule.KIND c.args.ground.table.now c.args.ground.side a c.args.walk.now.board)
    c.args.walk.now.board marks.items)
    (Stopped (IsWithstoodBy g.R.Rule.KIND c.args.ground.table.now c.args.ground.side a c.args.walk.now.board) c.args.walk.now.left
    (AnswersHavePairsBy g.R.Rule.KIND c.args.ground.table.now c.args.ground.side a c.args.walk.now.board))) start c.withstand.ensures.found)

pub returns-in-To-clause-took : goal.returns-in-To-clause-took
returns-in-To-clause-took g c =
    let start = same_start c.in-Defend.start c.as_slice.result.now c.in-To.rest
    (c.as_slice.ensures.items ∙ c.replies.ensures.listed) (sym c.rest.ensures.rest ∙ c.in-To.is) in
    rw c.in-Defend.is (subst (λ (a : Answers). IfOk c.withstand.result
    (λ _. Took (AnswersHavePairsBy g.R.Rule.KIND c.args.ground.table.now c.args.ground.side a c.args.walk.now.board) c.args.walk.now.left
    c.withstand.new.walk.left)) start c.withstand.ensures.took)
