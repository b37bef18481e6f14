use Rattle.std.proofs.Common.{rules, arith}
use Rattle.proof_number.proofs.Steps.{leaf-childless, leaf-inside, leaf-noted, writes-no_memory, writes-none}
use Rattle.proof_number.proofs.Defending.{defend-no_five, denied-grows}
use Rattle.proof_number.proofs.search.Search.defend.Goals as goal

pub index-requires : goal.index-requires
index-requires g c = let low = leaf-noted c.requires.at_leaf in omega (arith, low)

pub is_denied-requires : goal.is_denied-requires
is_denied-requires g c = record { no_five = defend-no_five c.requires.at_leaf c.requires.defend }

pub settle_at-requires : goal.settle_at-requires
settle_at-requires g c = record {
  in_tree = leaf-inside c.requires.at_leaf;
  childless = leaf-childless c.requires.at_leaf;
}

pub returns-then-denied-clause-tried : goal.returns-then-denied-clause-tried
returns-then-denied-clause-tried g c =
    record {
      step = denied-grows
          c.requires.at_leaf c.requires.defend
          (c.in_ok-denied.ensures.denied c.if-denied.true) (c.in_ok-denied.ensures.fours c.if-denied.true) c.settle_at.new.self
          (record {
            links = c.settle_at.ensures.links;
            settled = c.settle_at.ensures.settled;
            others = c.settle_at.ensures.others;
            leaves = c.settle_at.ensures.leaves;
            tree = c.settle_at.ensures.tree;
          });
      writes = writes-none c.requires.at_leaf _;
    }

pub answer_replies-requires-clause-at_leaf : goal.answer_replies-requires-clause-at_leaf
answer_replies-requires-clause-at_leaf g c = rw c.is_denied.ensures.same c.requires.at_leaf

pub returns-in_err-denied-clause-tried : goal.returns-in_err-denied-clause-tried
returns-in_err-denied-clause-tried g c = record {
  step = search rules;
  writes = writes-no_memory (search rules);
}
