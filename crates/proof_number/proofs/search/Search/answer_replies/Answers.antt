use Rattle.std.proofs.Common.{rules, ◌≡◌, ◌∙◌, ◌+◌, ℕ, sym, ap, arith, List, get_or, Option, sum_by}
use Rattle.proof_number.proofs.Common.{Grid, RuleKind, Tree, Node, Note, Child, Children, Search, note_at, StandsAt, nodes_for}
use Rattle.proof_tree.proofs.SumLaws.{fresh-numbers}
use Rattle.threat_game.proofs.Common.{AreReplies}
use Rattle.proof_number.proofs.Steps.{attacked-few, leaf-board, leaf-childless, leaf-inside, leaf-noted, leaf-left, writes-no_memory}
use Rattle.proof_number.proofs.Steps.{writes-none}
use Rattle.proof_number.proofs.Defending.{all-fresh, defend-moves, defend-no_five, defend-reply, each-is, each-same, escape-grows, few-new}
use Rattle.proof_number.proofs.Defending.{replies-few, replies-grow, replies-room, replies-spent, settled-same, some-new}
use Rattle.strategy_compiler.proofs.Growing.{grows-more, writes-fails, writes-memory, writes-tells}
use Rattle.proof_number.proofs.ExpandedCounts.{budget-few, short-there, sums-there}
use Rattle.proof_number.proofs.search.Search.answer_replies.Goals as goal

-- what the replies are judged as, within the moves that are left at the leaf
judged : {rule : RuleKind} {s : Search} {t : Tree} {d : List Node} {leaf : ℕ} {view : Grid} {n : Note} {left : ℕ} {r o : Option Children}
    → StandsAt rule s t d leaf view → n ≡ get_or s.notes.items leaf n → left ≡ n.left → r ≡ o → AreReplies rule left view r
    → AreReplies rule (note_at s.notes.items leaf).left view o
judged {rule = rule} {view = view} {n = n} {left = left} {o = o} at_leaf read from is replies =
    rw (← (from ∙ leaf-left at_leaf n read)) (rw is at replies)

pub index-requires : goal.index-requires
index-requires g c = let low = leaf-noted c.requires.at_leaf in omega (arith, low)

pub judge_replies-requires-clause-no_five : goal.judge_replies-requires-clause-no_five
judge_replies-requires-clause-no_five g c = defend-no_five c.requires.at_leaf c.requires.defend

pub judge_replies-requires-clause-reply : goal.judge_replies-requires-clause-reply
judge_replies-requires-clause-reply g c = defend-reply c.requires.at_leaf c.requires.defend

pub judge_replies-requires-clause-copy : goal.judge_replies-requires-clause-copy
judge_replies-requires-clause-copy g c = leaf-board c.requires.at_leaf

pub settle_at-requires : goal.settle_at-requires
settle_at-requires g c = record {
  in_tree = leaf-inside c.requires.at_leaf;
  childless = leaf-childless c.requires.at_leaf;
}

pub judge_replies-requires-clause-some_moves : goal.judge_replies-requires-clause-some_moves
judge_replies-requires-clause-some_moves g c =
    let left_is = c.from.ensures ∙ leaf-left c.requires.at_leaf c.index.result.now c.index.ensures in
    let one = defend-moves c.requires.at_leaf c.requires.defend in
    omega (arith, one, left_is)

pub overflow_add-count : goal.overflow_add-count
overflow_add-count g c =
    let are = judged c.requires.at_leaf c.index.ensures c.from.ensures c.in-Some.is c.in_ok-judge_replies.ensures.replies in
    let a = attacked-few c.requires.at_leaf in
    let few = replies-few c.requires.at_leaf c.requires.defend c.in-Some.children are in
    omega (arith, a, few)

pub returns-in-None-clause-tried : goal.returns-in-None-clause-tried
returns-in-None-clause-tried g c =
    let left_is = c.from.ensures ∙ leaf-left c.requires.at_leaf c.index.result.now c.index.ensures in
    let escape = judged c.requires.at_leaf c.index.ensures c.from.ensures c.in-None.is c.in_ok-judge_replies.ensures.replies in
    let early = rw c.in-None.is at c.in_ok-judge_replies.ensures.early in
    record {
      step = escape-grows c.requires.at_leaf c.requires.defend escape (omega (arith, early, left_is)) c.settle_at.new.self
          (record {
            links = c.settle_at.ensures.links;
            settled = c.settle_at.ensures.settled;
            others = c.settle_at.ensures.others;
            leaves = c.settle_at.ensures.leaves;
            tree = c.settle_at.ensures.tree;
          }) c.judge_replies.new.board
          c.judge_replies.ensures.same_board;
      writes = writes-none c.requires.at_leaf _;
    }

pub returns-then-count-self-clause-tried : goal.returns-then-count-self-clause-tried
returns-then-count-self-clause-tried g c =
    let are = judged c.requires.at_leaf c.index.ensures c.from.ensures c.in-Some.is c.in_ok-judge_replies.ensures.replies in
    let over = c.if-count-self.true in
    record {
      step = replies-spent c.requires.at_leaf c.requires.defend c.in-Some.children are (omega (arith, over)) c.judge_replies.new.board
          c.judge_replies.ensures.same_board;
      writes = writes-none c.requires.at_leaf _;
    }

pub returns-in_err-settled-in-Some-clause-tried : goal.returns-in_err-settled-in-Some-clause-tried
returns-in_err-settled-in-Some-clause-tried g c =
    let are = judged c.requires.at_leaf c.index.ensures c.from.ensures c.in-Some.is c.in_ok-judge_replies.ensures.replies in
    let within = c.if-count-self.false in
    let same = ap (sum_by (λ (child : Child). nodes_for child.judged)) c.as_slice.ensures.value in
    let room = replies-room c.requires.at_leaf c.requires.defend c.in-Some.children are (omega (arith, within)) in
    record {
      step = search rules;
      writes = writes-fails _ _ _ _ _ _ c.in_err-settled-in-Some.ensures.writes (omega (arith, same, room)) (search rules);
    }

pub returns-in_err-expand-in-Some-clause-tried : goal.returns-in_err-expand-in-Some-clause-tried
returns-in_err-expand-in-Some-clause-tried g c =
    let are = judged c.requires.at_leaf c.index.ensures c.from.ensures c.in-Some.is c.in_ok-judge_replies.ensures.replies in
    let within = c.if-count-self.false in
    let same = ap (sum_by (λ (child : Child). nodes_for child.judged)) c.as_slice.ensures.value in
    let room = replies-room c.requires.at_leaf c.requires.defend c.in-Some.children are (omega (arith, within)) in
    record {
      step = search rules;
      writes = writes-memory _ _ _ _ (grows-more _ _ _ _ c.in_ok-settled-in-Some.ensures.writes.grows (omega (arith, same, room)))
          (search rules);
    }

pub returns-in_err-judge_replies-clause-tried : goal.returns-in_err-judge_replies-clause-tried
returns-in_err-judge_replies-clause-tried g c = record {
  step = search rules;
  writes = writes-no_memory (search rules);
}

pub expand-requires : goal.expand-requires
expand-requires g c =
    let left = leaf-left c.requires.at_leaf c.index.result.now c.index.ensures in
    let are = judged c.requires.at_leaf c.index.ensures c.from.ensures c.in-Some.is c.in_ok-judge_replies.ensures.replies in
    let settled = settled-same left c.judge_replies.ensures.same c.as_slice.ensures.value
    c.as_slice-in-Some.ensures.value c.as_slice-in-Some-2.ensures.value c.in_ok-settled-in-Some.ensures.settled in
    let within = c.if-count-self.false in
    let few = budget-few c.requires.at_leaf in
    let all = few-new c.requires.at_leaf c.requires.defend c.in-Some.children are _ _ _ settled (omega (arith, within)) in
    let some = some-new c.requires.at_leaf c.requires.defend c.in-Some.children are _ _ _ settled in
    let fresh = all-fresh c.requires.at_leaf c.requires.defend c.in-Some.children are _ _ _ settled in
    record {
      in_tree = leaf-inside c.requires.at_leaf;
      childless = leaf-childless c.requires.at_leaf;
      some = some;
      each = fresh-numbers c.as_slice-in-Some.result.now fresh;
      short = short-there c.requires.at_leaf c.as_slice-in-Some.result.now some (omega (arith, all, few));
      sums = sums-there c.requires.at_leaf c.as_slice-in-Some.result.now some (omega (arith, all, few)) fresh;
    }

pub returns-in_ok-expand-in-Some-clause-tried : goal.returns-in_ok-expand-in-Some-clause-tried
returns-in_ok-expand-in-Some-clause-tried g c =
    let left = leaf-left c.requires.at_leaf c.index.result.now c.index.ensures in
    let are = judged c.requires.at_leaf c.index.ensures c.from.ensures c.in-Some.is c.in_ok-judge_replies.ensures.replies in
    let settled = settled-same left c.judge_replies.ensures.same c.as_slice.ensures.value
    c.as_slice-in-Some.ensures.value c.as_slice-in-Some-2.ensures.value c.in_ok-settled-in-Some.ensures.settled in
    let within = c.if-count-self.false in
    let grown = rw c.as_slice.ensures.value at c.in_ok-settled-in-Some.ensures.writes.grows in
    let count : ℕ = c.args.self.now.attacked + c.in-Some.children.count in
    record {
      step = replies-grow c.requires.at_leaf c.requires.defend c.in-Some.children are c.settle_children.new.compiler grown
          c.in_ok-settled-in-Some.ensures.writes.compiled c.as_slice-in-Some.result.now c.as_slice-in-Some-2.result.now settled
          c.expand.new.tree c.in_ok-expand-in-Some.ensures.tree (record c.expand.new.self { attacked = count })
          c.in_ok-expand-in-Some.ensures.notes (ap (λ (s : Search). record s { attacked = count }) c.expand.ensures.rest
          ∙ ap (λ (b : Grid). record c.args.self.now { board = b; notes = c.expand.new.self.notes; attacked = count })
          (sym (ap (λ (s : Search). s.board) c.expand.ensures.rest)))
          (ap (λ (s : Search). s.board) c.expand.ensures.rest ∙ c.judge_replies.ensures.same_board) (omega (arith, within));
      writes = writes-tells _ _ _ _ c.in_ok-settled-in-Some.settled _ c.in_ok-settled-in-Some.ensures.writes
          (let same = ap (sum_by (λ (child : Child). nodes_for child.judged)) c.as_slice.ensures.value in
          let room = replies-room c.requires.at_leaf c.requires.defend c.in-Some.children are (omega (arith, within)) in
          omega (arith, same, room));
    }

pub settle_children-requires : goal.settle_children-requires
settle_children-requires g c =
    let left = leaf-left c.requires.at_leaf c.index.result.now c.index.ensures in
    let are = judged c.requires.at_leaf c.index.ensures c.from.ensures c.in-Some.is c.in_ok-judge_replies.ensures.replies in
    record {
      each = each-same left c.judge_replies.ensures.same c.as_slice.ensures.value
          (each-is c.requires.at_leaf c.requires.defend c.in-Some.children are);
    }
