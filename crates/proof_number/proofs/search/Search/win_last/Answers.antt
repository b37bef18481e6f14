use Rattle.std.proofs.Common.{rules, ◌≡◌, ◌∙◌, ◌+◌, ℕ, ap, arith}
use Rattle.proof_number.specs.Notes.{note_at}
use Rattle.proof_number.proofs.Steps.{attack-moves, leaf-budget, leaf-childless, leaf-inside, leaf-lawful, leaf-noted, counted-step}
use Rattle.proof_number.proofs.Steps.{last-room}
use Rattle.proof_number.proofs.Steps.{last-won, win-few}
use Rattle.threat_game.proofs.TreeLaws.{tree-positive}
use Rattle.strategy_compiler.proofs.Growing.{writes-fails, writes-tells}
use Rattle.proof_number.proofs.search.Search.win_last.Goals as goal

pub returns-in_err-win : goal.returns-in_err-win
returns-in_err-win g c = record {
  tried = record {
    step = search rules;
    writes = writes-fails _ _ 1 _ _ _ c.in_err-win.ensures.writes (last-room c.requires.at_leaf c.requires.attack
        c.args.p c.requires.last) (search rules);
  };
}

pub settle_won-requires-clause-in_tree : goal.settle_won-requires-clause-in_tree
settle_won-requires-clause-in_tree g c = leaf-inside c.requires.at_leaf

pub settle_won-requires-clause-childless : goal.settle_won-requires-clause-childless
settle_won-requires-clause-childless g c = leaf-childless c.requires.at_leaf

pub settle_won-requires-clause-noted : goal.settle_won-requires-clause-noted
settle_won-requires-clause-noted g c = leaf-noted c.requires.at_leaf

pub settle_won-requires-clause-few : goal.settle_won-requires-clause-few
settle_won-requires-clause-few g c =
    let two = attack-moves c.requires.at_leaf c.requires.attack in
    win-few c.requires.at_leaf c.requires.attack c.compile_last.new.compiler c.in_ok-win.win
    (c.in_ok-win.ensures.win g.R.Rule.KIND c.args.self.now.board (note_at c.args.self.now.notes.items c.args.leaf).left
    (leaf-lawful c.requires.at_leaf) c.requires.last (omega (arith, two)))

pub returns : goal.returns
returns g c =
    let two = attack-moves c.requires.at_leaf c.requires.attack in
    let fits = leaf-budget c.requires.at_leaf in
    let some = tree-positive g.R.Rule.KIND (note_at c.args.self.now.notes.items c.args.leaf).left c.args.self.now.board in
    let won = last-won c.requires.at_leaf c.requires.attack c.args.p c.requires.last in
    let same : c.args.self.now.attacked ≡ c.args.self.now.attacked + 0 = omega arith in
    record {
      tried = record {
        step = counted-step c.requires.at_leaf
            c.requires.attack 0 (omega (arith, fits)) (omega arith) (omega (arith, some)) (omega (arith, won))
            c.settle_won.new.tree c.settle_won.ensures.settled c.settle_won.new.self
            (c.settle_won.ensures.rest ∙ ap (λ (k : ℕ). record c.args.self.now { notes = c.settle_won.new.self.notes; attacked = k }) same)
            c.compile_last.new.compiler c.in_ok-win.ensures.writes.grows c.in_ok-win.ensures.writes.compiled c.in_ok-win.win
            c.settle_won.ensures.notes
            (c.in_ok-win.ensures.win g.R.Rule.KIND c.args.self.now.board (note_at c.args.self.now.notes.items c.args.leaf).left
            (leaf-lawful c.requires.at_leaf) c.requires.last (omega (arith, two)));
        writes = writes-tells _ _ 1 _ c.in_ok-win.win _ c.in_ok-win.ensures.writes
            (last-room c.requires.at_leaf c.requires.attack c.args.p c.requires.last);
      };
    }
