use Rattle.std.proofs.Common.{rules, ◌∙◌, refl, ap, arith, [], ◌∷◌, ◌++◌}
use Rattle.std.proofs.lemmas.List.{take_all}
use Rattle.proof_number.proofs.Common.{Grid, after, Note, Child, moves_for, child_at, child_note, no_child}
use Rattle.strategy_graph.specs.declared.TheConstants.{MAX_NODES}
use Rattle.strategy_graph.proofs.Filling.{IsTable-lower}
use Rattle.threat_game.proofs.TreeLaws.{moves-few}
use Rattle.strategy_compiler.proofs.Growing.{writes-memory}
use Rattle.proof_number.proofs.Defending.{more-settled, no-room, nodes-more, nodes-within}
use Rattle.proof_number.proofs.search.settle_children.Goals as goal

pub returns-in_err-win-clause-writes : goal.returns-in_err-win-clause-writes
returns-in_err-win-clause-writes g c =
    let child : Child = child_at c.args.children.now c.loop-child.child-index in
    let grown = nodes-within c.args.children.now c.args.compiler.now c.loop-child.compiler c.settle_child.new.compiler
    c.loop-child.child-index c.loop-child-test.true child refl c.loop-child.invariant.grown c.settle_child.ensures.grows in
    let room = no-room c.args.children.now c.args.compiler.now c.loop-child.compiler c.settle_child.new.compiler c.loop-child.child-index
    c.loop-child-test.true child refl c.loop-child.invariant.grown MAX_NODES in
    record {
      grows = grown;
      compiled = search rules;
      full = λ e. room (c.in_err-win.ensures.full (search rules));
      full_now = λ e. c.in_err-win.ensures.full_now (search rules);
    }

pub add_child-requires : goal.add_child-requires
add_child-requires g c =
    let child : Child = child_at c.args.children.now c.loop-child.child-index in
    let is = c.requires.each c.loop-child.child-index no_child c.loop-child-test.true in
    record {
      few = moves-few g.R.Rule.KIND c.args.left (moves_for child.judged) (after (g.V.Seen.position c.loop-child.view) child.at)
          c.settle_child.new.compiler c.in_ok-win.win is.enough (let fits = c.ranges.left in omega (arith, fits)) c.in_ok-win.ensures.win;
    }

pub returns-in_err-add_child-clause-writes : goal.returns-in_err-add_child-clause-writes
returns-in_err-add_child-clause-writes g c =
    writes-memory _ _ _ _
    (nodes-within c.args.children.now c.args.compiler.now c.loop-child.compiler c.settle_child.new.compiler c.loop-child.child-index
    c.loop-child-test.true (child_at c.args.children.now c.loop-child.child-index) refl c.loop-child.invariant.grown
    c.settle_child.ensures.grows) (search rules)

pub returns-clause-writes : goal.returns-clause-writes
returns-clause-writes g c = record {
  grows = rw (take_all c.loop-child.child-index c.args.children.now (omega arith)) at c.loop-child.invariant.grown;
  compiled = c.loop-child.invariant.compiled;
  full = λ e. cc;
  full_now = λ e. cc;
}

pub loop-child-preserved : goal.loop-child-preserved
loop-child-preserved g c =
    let b : Grid = g.V.Seen.position c.args.view.now in
    let child : Child = child_at c.args.children.now c.loop-child.child-index in
    let is = c.requires.each c.loop-child.child-index no_child c.loop-child-test.true in
    let wins = rw c.loop-child.invariant.same at c.in_ok-win.ensures.win in
    let stands = rw c.loop-child.invariant.same at c.in_ok-win.ensures.stands in
    record {
      same = c.settle_child.ensures.same ∙ c.loop-child.invariant.same;
      settled = more-settled g.R.Rule.KIND c.args.left b c.args.children.now c.loop-child.compiler c.settle_child.new.compiler
          c.loop-child.child-index _ c.loop-child.numbers.items c.add_child.new.numbers.items c.loop-child.notes.items
          c.add_child.new.notes.items child c.in_ok-win.win
          (IsTable-lower c.loop-child.compiler c.loop-child.invariant.compiled.table) c.loop-child.invariant.settled refl
          c.in_ok-win.ensures.open is.enough wins stands c.settle_child.ensures.grows c.in_ok-add_child.ensures.numbers
          (c.in_ok-add_child.ensures.notes ∙ ap (λ (note : Note). c.loop-child.notes.items ++ child_note note c.in_ok-win.win ∷ [])
          c.open.ensures.note);
      grown = nodes-more c.args.children.now c.args.compiler.now c.loop-child.compiler c.settle_child.new.compiler c.loop-child.child-index
          c.loop-child-test.true child refl c.loop-child.invariant.grown c.settle_child.ensures.grows;
      compiled = c.len-in-loop-child.ensures.compiled;
    }
