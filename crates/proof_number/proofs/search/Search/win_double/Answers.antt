use Rattle.std.proofs.Common.{rules, ◌≡◌, ◌+◌, ℕ, ap, subst, arith}
use Rattle.proof_number.proofs.Common.{Grid, answer_nodes, GrowsBy, note_at}
use Rattle.proof_number.proofs.Steps.{attack-moves, leaf-childless, leaf-inside, leaf-noted, attacked-few, counted-step, double-fits}
use Rattle.proof_number.proofs.Steps.{double-room}
use Rattle.proof_number.proofs.Steps.{spent-there, double-won, win-few, writes-none}
use Rattle.proof_number.proofs.WinLaws.{answers-few}
use Rattle.strategy_compiler.proofs.Growing.{writes-fails, writes-tells}
use Rattle.proof_number.proofs.search.Search.win_double.Goals as goal

pub overflow_add-count : goal.overflow_add-count
overflow_add-count g c =
    let a = attacked-few c.requires.at_leaf in
    omega (arith, a, c.answers_of.ensures.few)

pub returns-then-count-self-clause-tried : goal.returns-then-count-self-clause-tried
returns-then-count-self-clause-tried g c =
    let nodes = c.answers_of.ensures.nodes in
    let over = c.if-count-self.true in
    record {
      step = spent-there c.requires.at_leaf c.requires.attack c.args.double c.requires.double (omega (arith, over, nodes));
      writes = writes-none c.requires.at_leaf _;
    }

pub returns-in_err-win-clause-tried : goal.returns-in_err-win-clause-tried
returns-in_err-win-clause-tried g c =
    let within = c.if-count-self.false in
    record {
      step = search rules;
      writes = writes-fails _ _ _ _ _ _ c.in_err-win.ensures.writes
          (double-room c.requires.at_leaf c.requires.attack (g.V.Seen.position c.answers_of.new.view) c.args.double c.answers_of.result
          c.answers_of.ensures.same c.answers_of.ensures.nodes c.requires.double (omega (arith, within))) (search rules);
    }

pub settle_won-requires-clause-in_tree : goal.settle_won-requires-clause-in_tree
settle_won-requires-clause-in_tree g c = leaf-inside c.requires.at_leaf

pub settle_won-requires-clause-childless : goal.settle_won-requires-clause-childless
settle_won-requires-clause-childless g c = leaf-childless c.requires.at_leaf

pub settle_won-requires-clause-noted : goal.settle_won-requires-clause-noted
settle_won-requires-clause-noted g c = leaf-noted c.requires.at_leaf

pub settle_won-requires-clause-few : goal.settle_won-requires-clause-few
settle_won-requires-clause-few g c =
    let two = attack-moves c.requires.at_leaf c.requires.attack in
    let left : ℕ = (note_at c.args.self.now.notes.items c.args.leaf).left in
    let is = rw c.answers_of.ensures.same at (c.in_ok-win.ensures.win left two) in
    win-few c.requires.at_leaf c.requires.attack c.compile_double.new.compiler c.in_ok-win.win is

pub returns-clause-tried : goal.returns-clause-tried
returns-clause-tried g c =
    let two = attack-moves c.requires.at_leaf c.requires.attack in
    let left : ℕ = (note_at c.args.self.now.notes.items c.args.leaf).left in
    let is = rw c.answers_of.ensures.same at (c.in_ok-win.ensures.win left two) in
    let few = double-fits c.requires.at_leaf c.requires.attack c.args.double c.requires.double in
    let won = double-won c.requires.at_leaf c.requires.attack c.args.double c.requires.double in
    let two_most = answers-few g.R.Rule.KIND (g.V.Seen.position c.args.view.now) c.args.double in
    let nodes = c.answers_of.ensures.nodes in
    let within = c.if-count-self.false in
    let same = ap (λ (b : Grid). answer_nodes g.R.Rule.KIND b c.args.double) c.answers_of.ensures.same in
    let added : 1 + answer_nodes g.R.Rule.KIND (g.V.Seen.position c.answers_of.new.view) c.args.double ≡ 1 + c.answers_of.result =
    omega (arith, same, nodes) in
    let grown : GrowsBy c.args.compiler.now c.compile_double.new.compiler (1 + c.answers_of.result) = subst
    (λ (k : ℕ). GrowsBy c.args.compiler.now c.compile_double.new.compiler k) added c.in_ok-win.ensures.writes.grows in
    record {
      step = counted-step c.requires.at_leaf c.requires.attack c.answers_of.result (omega (arith, within)) (omega (arith, two_most, nodes))
          (omega (arith, few, nodes)) (omega (arith, won, nodes)) c.settle_won.new.tree c.settle_won.ensures.settled c.settle_won.new.self
          c.settle_won.ensures.rest c.compile_double.new.compiler grown c.in_ok-win.ensures.writes.compiled c.in_ok-win.win
          c.settle_won.ensures.notes is;
      writes = writes-tells _ _ _ _ c.in_ok-win.win _ c.in_ok-win.ensures.writes
          (double-room c.requires.at_leaf c.requires.attack (g.V.Seen.position c.answers_of.new.view) c.args.double c.answers_of.result
          c.answers_of.ensures.same c.answers_of.ensures.nodes c.requires.double (omega (arith, within)));
    }
