use Rattle.std.proofs.Common.{◌∙◌, reverse, sym, ap, subst}
use Rattle.std.proofs.lemmas.Option.{slice_get_within, same_Some}
use Rattle.strategy_checker.proofs.Common.{Grid, lift, after, Stage, Under}
use Rattle.game_rules.proofs.Undo.{stone_back, unwon_back}
use Rattle.strategy_checker.proofs.Stages.{handed-first, handed-on, handed-open, handed-settled, handed-stopped}
use Rattle.strategy_checker.proofs.walk.Walk.visit.Goals as goal

pub loop-walked-init : goal.loop-walked-init
loop-walked-init g c = rw c.new-waiting.ensures.items (handed-first c.enter-walked.ensures.entered)

-- ---- a node that is open

pub go_on-requires-clause-in_table : goal.go_on-requires-clause-in_table
go_on-requires-clause-in_table g c =
    let open_is = handed-open c.in-Ok.is c.in-Some.is c.loop-walked.invariant in
    slice_get_within c.args.table.now c.in-Some.stage.node open_is.0 open_is.1.at

pub loop-walked-preserved-in-Some : goal.loop-walked-preserved-in-Some
loop-walked-preserved-in-Some g c =
    let open_is = handed-open c.in-Ok.is c.in-Some.is c.loop-walked.invariant in
    handed-on open_is.0 c.loop-walked.position c.in-Some.stage c.loop-walked.waiting.items open_is.3
    (c.go_on.ensures.went_on open_is.0 open_is.1.at)

-- ---- a node that is settled, and the one that waits for it

pub undo-requires-clause-stone : goal.undo-requires-clause-stone
undo-requires-clause-stone g c =
    let settled = handed-settled c.pop.new.self.items c.in-Some-pop.ensures.items c.in-Ok.is c.in-None.is c.loop-walked.invariant in
    stone_back g.R.Rule.KIND settled.1 c.loop-walked.position c.in-Some-pop.last.meeting.reply settled.3.lawful settled.6 settled.5

pub undo-requires-clause-unwon : goal.undo-requires-clause-unwon
undo-requires-clause-unwon g c =
    let settled = handed-settled c.pop.new.self.items c.in-Some-pop.ensures.items c.in-Ok.is c.in-None.is c.loop-walked.invariant in
    unwon_back g.R.Rule.KIND settled.1 c.loop-walked.position c.in-Some-pop.last.meeting.reply settled.3.lawful settled.6 settled.5

pub go_on-requires-in-Some-pop-clause-in_table : goal.go_on-requires-in-Some-pop-clause-in_table
go_on-requires-in-Some-pop-clause-in_table g c =
    let settled = handed-settled c.pop.new.self.items c.in-Some-pop.ensures.items c.in-Ok.is c.in-None.is c.loop-walked.invariant in
    slice_get_within c.args.table.now c.in-Some-pop.last.node settled.0 settled.2.at

pub go_on-requires-in-Some-pop-clause-stage : goal.go_on-requires-in-Some-pop-clause-stage
go_on-requires-in-Some-pop-clause-stage g c = λ m is_at.
    let settled = handed-settled c.pop.new.self.items c.in-Some-pop.ensures.items c.in-Ok.is c.in-None.is c.loop-walked.invariant in
    let same = same_Some _ m (sym settled.2.at ∙ is_at) in
    rw (c.undo.ensures.undone ∙ settled.7, ← same) settled.2

pub loop-walked-preserved-in-Some-pop : goal.loop-walked-preserved-in-Some-pop
loop-walked-preserved-in-Some-pop g c =
    let settled = handed-settled c.pop.new.self.items c.in-Some-pop.ensures.items c.in-Ok.is c.in-None.is c.loop-walked.invariant in
    handed-on settled.0 c.undo.new.self c.in-Some-pop.last c.pop.new.self.items (rw (c.undo.ensures.undone ∙ settled.7) settled.4)
    (c.go_on-in-Some-pop.ensures.went_on settled.0 settled.2.at)

-- ---- a node where the walk has stopped, and the one that waits for it

pub give_up-requires-clause-in_table : goal.give_up-requires-clause-in_table
give_up-requires-clause-in_table g c =
    let stopped = handed-stopped c.pop-in-Err.new.self.items c.in-Some-pop-2.ensures.items c.in-Err.is c.loop-walked.invariant in
    slice_get_within c.args.table.now c.in-Some-pop-2.last.node stopped.0 stopped.4.stage.at

pub give_up-requires-clause-waits : goal.give_up-requires-clause-waits
give_up-requires-clause-waits g c = λ m is_at.
    let stopped = handed-stopped c.pop-in-Err.new.self.items c.in-Some-pop-2.ensures.items c.in-Err.is c.loop-walked.invariant in
    let same = same_Some _ m (sym stopped.4.stage.at ∙ is_at) in
    (stopped.2, (stopped.3, rw (stopped.8, ← same) stopped.4))

pub give_up-requires-clause-there : goal.give_up-requires-clause-there
give_up-requires-clause-there g c =
    let stopped = handed-stopped c.pop-in-Err.new.self.items c.in-Some-pop-2.ensures.items c.in-Err.is c.loop-walked.invariant in
    ap (λ (w : Grid). after w c.in-Some-pop-2.last.meeting.reply) stopped.8 ∙ sym stopped.5

pub loop-walked-preserved : goal.loop-walked-preserved
loop-walked-preserved g c =
    let last : Stage = c.in-Some-pop-2.last in
    let stopped = handed-stopped c.pop-in-Err.new.self.items c.in-Some-pop-2.ensures.items c.in-Err.is c.loop-walked.invariant in
    record {
      i = last.node;
      b = lift (lift c.loop-walked.position last.meeting.reply) stopped.0.attack;
      start = last.before;
      under = subst (λ (w : Grid). Under g.R.Rule.KIND c.args.table.now c.args.i c.args.position.now c.args.self.now.left
          (reverse c.pop-in-Err.new.self.items) last.node (lift w stopped.0.attack) last.before) (sym stopped.8) stopped.7;
      entered = (
        c.give_up.ensures.stops stopped.0 stopped.2 stopped.3 (rw stopped.8 stopped.4) stopped.6,
        c.give_up.ensures.undone stopped.0 stopped.4.stage.at,
      );
    }
