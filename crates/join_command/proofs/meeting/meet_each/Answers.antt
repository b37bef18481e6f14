-- Reply by reply.
use Rattle.std.proofs.Common.{◌∙◌, ap, subst, refl}
use Rattle.game_rules.proofs.Common.{Grid, points_of}
use Rattle.join_command.specs.Meeting.{IsMet}
use Rattle.join_command.proofs.Replies.{asked-before, met-all, met-more, met-none}
use Rattle.join_command.proofs.meeting.meet_each.Goals as goal

pub loop-q-init : goal.loop-q-init
loop-q-init g c =
    let all = c.into_iter-q-iterator.ensures.into_iter_gives ∙ c.points-q-items.ensures.points
    ∙ ap (λ (b : Grid). points_of b) c.board.ensures.board in
    record {
      same = refl;
      inside = tt;
      met = met-none g.R.Rule.KIND c.args.files.now c.args.roots.now c.args.position.now c.new-answers.result.items _
          c.new-answers.ensures.items all;
    }

pub returns-in-Open-clause-met : goal.returns-in-Open-clause-met
returns-in-Open-clause-met g c =
    let met = subst (IsMet g.R.Rule.KIND c.args.files.now c.loop-q.position c.in-Some.q) c.in-Open.is c.in_ok-meet.ensures.met in
    rw c.loop-q.invariant.same at met

pub root_of-next-requires : goal.root_of-next-requires
root_of-next-requires g c =
    let met = subst (IsMet g.R.Rule.KIND c.args.files.now c.loop-q.position c.in-Some.q) c.in-By.is c.in_ok-meet.ensures.met in
    let by = (rw c.loop-q.invariant.same at met).1 in
    record {
      there = c.requires.roots c.in-By.found.file by.file by.node by.at
          (asked-before c.args.position.now c.in-Some.q by.file by.node by.asked);
    }

pub loop-q-preserved : goal.loop-q-preserved
loop-q-preserved g c =
    let met = subst (IsMet g.R.Rule.KIND c.args.files.now c.loop-q.position c.in-Some.q) c.in-By.is c.in_ok-meet.ensures.met in
    let is = rw c.loop-q.invariant.same at met in
    record {
      same = c.meet.ensures.same ∙ c.loop-q.invariant.same;
      inside = is.2;
      met = met-more g.R.Rule.KIND c.args.files.now c.args.roots.now c.args.position.now c.loop-q.answers.items c.loop-q.q-iterator
          c.in-Some.q c.next.new.self c.loop-q.invariant.met c.in-Some.ensures.steps c.push.new.self.items
          c.root_of-next.result c.in-By.found.file is.0 is.1 c.root_of-next.ensures.root c.in_ok-push-in-By.ensures.items;
    }

pub returns-clause-met : goal.returns-clause-met
returns-clause-met g c =
    met-all g.R.Rule.KIND c.args.files.now c.args.roots.now c.args.position.now c.loop-q.answers.items c.loop-q.q-iterator
    c.loop-q.invariant.met c.in-None.ensures.steps.0
