-- The walk goes down to a node that is not completed, or completes the last one of its way.
use Rattle.std.proofs.Common.{◌*◌, ◌+◌, length, refl}
use Rattle.strategy_compiler.proofs.Common.{completed_after, unset}
use Rattle.strategy_compiler.proofs.Walking.{path-start, path-none, named-in-flags, path-push, path-push-lower, path-complete}
use Rattle.strategy_compiler.proofs.walk.complete.Goals as goal

pub returns-then-is_completed-root-clause-walked : goal.returns-then-is_completed-root-clause-walked
returns-then-is_completed-root-clause-walked c =
    path-none c.args.nodes.now c.args.is_completed.now c.args.order.now.items c.args.root c.requires.lower c.requires.between
    c.if-is_completed-root.true

pub loop-number-init : goal.loop-number-init
loop-number-init c =
    path-start c.args.nodes.now c.args.is_completed.now c.args.order.now.items c.args.root c.new-path.result.items c.push.new.self.items
    c.requires.between c.requires.in_table c.if-is_completed-root.false c.new-path.ensures.items c.in_ok-push.ensures.items

pub first_open-requires : goal.first_open-requires
first_open-requires c = record {
  below = named-in-flags c.args.nodes.now (completed_after c.args.nodes.now c.args.order.now.items c.args.root) c.loop-number.is_completed
      c.loop-number.order.items c.loop-number.path.items c.pop.new.self.items c.in-Some.number c.index-nodes-number.result
      c.loop-number.invariant c.in-Some.ensures.items c.requires.lower c.index-nodes-number.is c.loop-number.is_completed refl;
}

pub loop-number-smaller-in-Continue-branch-3 : goal.loop-number-smaller-in-Continue-branch-3
loop-number-smaller-in-Continue-branch-3 c =
    path-push-lower c.args.nodes.now (completed_after c.args.nodes.now c.args.order.now.items c.args.root) c.loop-number.is_completed
    c.loop-number.order.items c.loop-number.path.items c.pop.new.self.items c.in-Some.number c.index-nodes-number.result
    c.loop-number.invariant c.in-Some.ensures.items c.requires.lower c.index-nodes-number.is c.loop-number.is_completed refl
    c.in-Some-first_open.next (unset c.loop-number.is_completed * (length c.args.nodes.now + 1)) c.push-in-Some-first_open.new.self.items
    c.push-in-Some-first_open-2.new.self.items c.in-Some-first_open.ensures.first c.in_ok-push-in-Some-first_open.ensures.items
    c.in_ok-push-in-Some-first_open-2.ensures.items

pub loop-number-preserved-in-Continue-branch-3 : goal.loop-number-preserved-in-Continue-branch-3
loop-number-preserved-in-Continue-branch-3 c =
    path-push c.args.nodes.now (completed_after c.args.nodes.now c.args.order.now.items c.args.root) c.loop-number.is_completed
    c.loop-number.order.items c.loop-number.path.items c.pop.new.self.items c.in-Some.number c.index-nodes-number.result
    c.loop-number.invariant c.in-Some.ensures.items c.requires.lower c.index-nodes-number.is c.loop-number.is_completed refl
    c.in-Some-first_open.next c.push-in-Some-first_open.new.self.items c.push-in-Some-first_open-2.new.self.items
    c.in-Some-first_open.ensures.first c.in_ok-push-in-Some-first_open.ensures.items c.in_ok-push-in-Some-first_open-2.ensures.items

pub loop-number-preserved : goal.loop-number-preserved
loop-number-preserved c =
    path-complete c.args.nodes.now (completed_after c.args.nodes.now c.args.order.now.items c.args.root) c.loop-number.is_completed
    c.loop-number.order.items c.loop-number.path.items c.pop.new.self.items c.in-Some.number c.index-nodes-number.result
    c.loop-number.invariant c.in-Some.ensures.items c.requires.lower c.index-nodes-number.is c.loop-number.is_completed refl
    c.push-in-None.new.self.items c.in-None.ensures.first c.in_ok-push-in-None.ensures.items
