use Rattle.std.proofs.Common.{◌∙◌, sym, ap, arith, refl, Some}
use Rattle.proof_number.proofs.Common.{Won, Lost, note_at, IsNotedWin, WrittenWin}
use Rattle.proof_number.proofs.Steps.{leaf-found, leaf-childless, leaf-inside, leaf-noted, left-few, recalled-lost, recalled-stands}
use Rattle.proof_number.proofs.Steps.{recalled-won}
use Rattle.proof_number.proofs.Steps.{tried-from, writes-none}
use Rattle.proof_number.proofs.search.Search.attack.Goals as goal

pub recall-requires : goal.recall-requires
recall-requires g c = record {
  noted = leaf-noted c.requires.at_leaf;
}

pub settle_won-requires-clause-in_tree : goal.settle_won-requires-clause-in_tree
settle_won-requires-clause-in_tree g c = leaf-inside c.requires.at_leaf

pub settle_won-requires-clause-childless : goal.settle_won-requires-clause-childless
settle_won-requires-clause-childless g c = leaf-childless c.requires.at_leaf

pub settle_won-requires-clause-noted : goal.settle_won-requires-clause-noted
settle_won-requires-clause-noted g c = rw c.recall.ensures.rest (leaf-noted c.requires.at_leaf)

pub settle_won-requires-clause-few : goal.settle_won-requires-clause-few
settle_won-requires-clause-few g c =
    let found = ap Some (sym c.in-Some-Won.field-0-is) ∙ c.in-Some-Won.ensures.found in
    let known = leaf-found c.requires.at_leaf c.requires.attack (g.V.Seen.position c.args.view.now) (Won c.in-Some-Won.win) refl found in
    let few = left-few c.requires.at_leaf in
    omega (arith, few, known.0.within, ap (λ (w : WrittenWin). w.moves) c.in-Some-Won.win-is)

pub returns-in-Some-Won-clause-tried : goal.returns-in-Some-Won-clause-tried
returns-in-Some-Won-clause-tried g c =
    let found = ap Some (sym c.in-Some-Won.field-0-is) ∙ c.in-Some-Won.ensures.found in
    let known = leaf-found c.requires.at_leaf c.requires.attack (g.V.Seen.position c.args.view.now) (Won c.in-Some-Won.win) refl found in
    let P : WrittenWin → Type 0 = λ w. IsNotedWin g.R.Rule.KIND (note_at c.args.self.now.notes.items c.args.leaf).left
    (g.V.Seen.position c.args.view.now) c.args.compiler.now w in
    record {
      step = recalled-won c.requires.at_leaf c.recall.new.self c.recall.ensures.rest _ c.recall.ensures.entries c.requires.attack
          c.settle_won.new.tree c.settle_won.ensures.settled c.settle_won.new.self c.settle_won.ensures.rest _ c.settle_won.ensures.notes
          (rw c.in-Some-Won.win-is known);
      writes = writes-none c.requires.at_leaf _;
    }

pub settle_at-requires : goal.settle_at-requires
settle_at-requires g c = record {
  in_tree = leaf-inside c.requires.at_leaf;
  childless = leaf-childless c.requires.at_leaf;
}

pub returns-in-Some-Lost-clause-tried : goal.returns-in-Some-Lost-clause-tried
returns-in-Some-Lost-clause-tried g c =
    let found = ap Some (sym c.in-Some-Lost.field-0-is) ∙ c.in-Some-Lost.ensures.found in
    let known = leaf-found c.requires.at_leaf c.requires.attack (g.V.Seen.position c.args.view.now) Lost refl found in
    record {
      step = recalled-lost
          c.requires.at_leaf c.recall.new.self c.recall.ensures.rest _ c.recall.ensures.entries c.requires.attack
          c.settle_at.new.self (record {
            links = c.settle_at.ensures.links;
            settled = c.settle_at.ensures.settled;
            others = c.settle_at.ensures.others;
            leaves = c.settle_at.ensures.leaves;
            tree = c.settle_at.ensures.tree;
          }) known c.if-leaf-eq0.false;
      writes = writes-none c.requires.at_leaf _;
    }

pub try_attacks-requires-in_default-clause-at_leaf : goal.try_attacks-requires-in_default-clause-at_leaf
try_attacks-requires-in_default-clause-at_leaf g c =
    recalled-stands c.requires.at_leaf c.recall.new.self c.recall.ensures.rest _ c.recall.ensures.entries

pub returns-in_default-clause-tried : goal.returns-in_default-clause-tried
returns-in_default-clause-tried g c = tried-from c.recall.ensures.rest c.try_attacks-in_default.ensures.tried
