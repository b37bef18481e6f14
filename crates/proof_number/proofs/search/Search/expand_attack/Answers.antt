use Rattle.std.proofs.Common.{rules, ◌∙◌, ◌+◌, ◌-◌, ℕ, inl, refl, sym, ap, arith, List, length, map}
use Rattle.std.proofs.Common.{replicate}
use Rattle.std.proofs.lemmas.List.{length-replicate, nil_from_length}
use Rattle.std.proofs.lemmas.List.Elements.{All-replicate}
use Rattle.proof_number.proofs.Common.{Point, Search, note_at}
use Rattle.proof_tree.proofs.SumLaws.{IsFresh}
use Rattle.proof_number.proofs.Steps.{attack-moves, leaf-childless, leaf-inside, leaf-noted, leaf-left, writes-no_memory, writes-none}
use Rattle.proof_number.proofs.Attacking.{moves-grow, moves-spent, none-grows, open_note, open_one}
use Rattle.proof_number.proofs.ExpandedCounts.{budget-few, defended-few, short-there, sums-there}
use Rattle.proof_number.proofs.search.Search.expand_attack.Goals as goal

pub settle_at-requires : goal.settle_at-requires
settle_at-requires g c = record {
  in_tree = leaf-inside c.requires.at_leaf;
  childless = leaf-childless c.requires.at_leaf;
}

pub overflow_add-count : goal.overflow_add-count
overflow_add-count g c = let few = defended-few c.requires.at_leaf in omega (arith, few)

pub index-requires : goal.index-requires
index-requires g c = let low = leaf-noted c.requires.at_leaf in omega (arith, low)

pub overflow_sub-left : goal.overflow_sub-left
overflow_sub-left g c =
    let same = leaf-left c.requires.at_leaf c.index.result.now c.index.ensures in
    let two = attack-moves c.requires.at_leaf c.requires.attack in
    omega (arith, same, two)

pub expand-requires-clause-in_tree : goal.expand-requires-clause-in_tree
expand-requires-clause-in_tree g c = leaf-inside c.requires.at_leaf

pub expand-requires-clause-childless : goal.expand-requires-clause-childless
expand-requires-clause-childless g c = leaf-childless c.requires.at_leaf

pub expand-requires-clause-short : goal.expand-requires-clause-short
expand-requires-clause-short g c =
    let are = c.as_slice.ensures.value ∙ c.in_ok-numbers.ensures.numbers in
    let long = ap length are ∙ length-replicate (length c.args.moves.now) open_one in
    let some = c.if-moves-eq0.false in
    let within = c.if-count-self.false in
    let few = budget-few c.requires.at_leaf in
    short-there c.requires.at_leaf c.as_slice.result.now (omega (arith, long, some)) (omega (arith, long, within, few))

pub expand-requires-clause-sums : goal.expand-requires-clause-sums
expand-requires-clause-sums g c =
    let are = c.as_slice.ensures.value ∙ c.in_ok-numbers.ensures.numbers in
    let long = ap length are ∙ length-replicate (length c.args.moves.now) open_one in
    let some = c.if-moves-eq0.false in
    let within = c.if-count-self.false in
    let few = budget-few c.requires.at_leaf in
    let fresh = rw (← are) at (All-replicate IsFresh (length c.args.moves.now) open_one (inl refl)) in
    sums-there c.requires.at_leaf c.as_slice.result.now (omega (arith, long, some)) (omega (arith, long, within, few)) fresh

pub returns-then-moves-eq0 : goal.returns-then-moves-eq0
returns-then-moves-eq0 g c =
    record {
      tried = record {
        step = none-grows c.requires.at_leaf c.requires.attack
            c.requires.others (sym c.requires.moves ∙ nil_from_length c.args.moves.now c.if-moves-eq0.true)
            c.settle_at.new.self (record {
              links = c.settle_at.ensures.links;
              settled = c.settle_at.ensures.settled;
              others = c.settle_at.ensures.others;
              leaves = c.settle_at.ensures.leaves;
              tree = c.settle_at.ensures.tree;
            });
        writes = writes-none c.requires.at_leaf _;
      };
    }

pub returns-then-count-self : goal.returns-then-count-self
returns-then-count-self g c =
    let two = attack-moves c.requires.at_leaf c.requires.attack in
    let left : ℕ = (note_at c.args.self.now.notes.items c.args.leaf).left in
    let over = c.if-count-self.true in
    let same = ap length c.requires.moves in
    record {
      tried = record {
        step = moves-spent c.requires.at_leaf c.requires.attack
            c.requires.others (left - 1) (omega (arith, two)) (omega (arith, over, same));
        writes = writes-none c.requires.at_leaf _;
      };
    }

pub returns : goal.returns
returns g c =
    let same = leaf-left c.requires.at_leaf c.index.result.now c.index.ensures in
    let two = attack-moves c.requires.at_leaf c.requires.attack in
    let size = ap length c.requires.moves in
    let some = c.if-moves-eq0.false in
    let within = c.if-count-self.false in
    let left : ℕ = c.index.result.now.left - 1 in
    let count = ap (λ (ps : List Point). c.args.self.now.defended + length ps) c.requires.moves in
    record {
      tried = record {
        step = moves-grow c.requires.at_leaf c.requires.attack
            c.requires.others left (omega (arith, same, two)) (omega (arith, size, some)) c.expand.new.tree c.as_slice.result.now
            (c.as_slice.ensures.value ∙ c.in_ok-numbers.ensures.numbers
            ∙ ap (λ (ps : List Point). replicate (length ps) open_one) c.requires.moves) c.in_ok-expand.ensures.tree
            (record c.expand.new.self { defended = c.args.self.now.defended + length c.args.moves.now }) c.as_slice-2.result.now
            (c.as_slice-2.ensures.value ∙ c.in_ok-notes.ensures.notes ∙ ap (map (open_note left)) c.requires.moves)
            c.in_ok-expand.ensures.notes
            (ap (λ (s : Search). record s { defended = c.args.self.now.defended + length c.args.moves.now }) c.expand.ensures.rest
            ∙ ap (λ (k : ℕ). record c.args.self.now { notes = c.expand.new.self.notes; defended = k }) count)
            (omega (arith, count, within));
        writes = writes-none c.requires.at_leaf _;
      };
    }

pub returns-in_err-numbers : goal.returns-in_err-numbers
returns-in_err-numbers g c = record {
  tried = record {
    step = search rules;
    writes = writes-no_memory (search rules);
  };
}

pub returns-in_err-notes : goal.returns-in_err-notes
returns-in_err-notes g c = record {
  tried = record {
    step = search rules;
    writes = writes-no_memory (search rules);
  };
}

pub returns-in_err-expand : goal.returns-in_err-expand
returns-in_err-expand g c = record {
  tried = record { step = search rules; writes = writes-no_memory (search rules) };
}
