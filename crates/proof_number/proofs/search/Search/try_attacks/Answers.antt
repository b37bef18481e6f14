use Rattle.std.proofs.Common.{rules, ◌∙◌, sym, ap}
use Rattle.threat_game.specs.Attacks.{tried_moves}
use Rattle.proof_number.proofs.Steps.{attack-no_five, board-stands, leaf-board, tried-on-board, writes-no_memory}
use Rattle.proof_number.proofs.search.Search.try_attacks.Goals as goal

pub find_attacks-requires-clause-none : goal.find_attacks-requires-clause-none
find_attacks-requires-clause-none g c = attack-no_five c.requires.at_leaf c.requires.attack

pub find_attacks-requires-clause-copy : goal.find_attacks-requires-clause-copy
find_attacks-requires-clause-copy g c = leaf-board c.requires.at_leaf

pub win_last-requires-clause-at_leaf : goal.win_last-requires-clause-at_leaf
win_last-requires-clause-at_leaf g c = board-stands c.requires.at_leaf _ c.find_attacks.ensures.same_board

pub expand_attack-requires-clause-at_leaf : goal.expand_attack-requires-clause-at_leaf
expand_attack-requires-clause-at_leaf g c = board-stands c.requires.at_leaf _ c.find_attacks.ensures.same_board

pub win_last-requires-clause-last : goal.win_last-requires-clause-last
win_last-requires-clause-last g c =
    let board = c.find_attacks.ensures.same_board ∙ leaf-board c.requires.at_leaf in
    let all = rw c.in-NoReply.is at c.in_ok-double.ensures.attacks in
    rw board all

pub expand_attack-requires-clause-moves : goal.expand_attack-requires-clause-moves
expand_attack-requires-clause-moves g c =
    let board = c.find_attacks.ensures.same_board ∙ leaf-board c.requires.at_leaf in
    let all = rw c.in-Moves.is at c.in_ok-double.ensures.attacks in
    c.as_slice.ensures.items ∙ all.0 ∙ ap (tried_moves g.R.Rule.KIND) (sym board)

pub expand_attack-requires-clause-others : goal.expand_attack-requires-clause-others
expand_attack-requires-clause-others g c =
    let board = c.find_attacks.ensures.same_board ∙ leaf-board c.requires.at_leaf in
    let all = rw c.in-Moves.is at c.in_ok-double.ensures.attacks in
    rw board all.1

pub returns-in_err-double-clause-tried : goal.returns-in_err-double-clause-tried
returns-in_err-double-clause-tried g c = record {
  step = search rules;
  writes = writes-no_memory (search rules);
}

pub returns-in-DoublePoint-clause-tried : goal.returns-in-DoublePoint-clause-tried
returns-in-DoublePoint-clause-tried g c = tried-on-board c.find_attacks.ensures.same_board c.win_double.ensures.tried

pub returns-in-NoReply-clause-tried : goal.returns-in-NoReply-clause-tried
returns-in-NoReply-clause-tried g c = tried-on-board c.find_attacks.ensures.same_board c.win_last.ensures.tried

pub returns-in-Moves-clause-tried : goal.returns-in-Moves-clause-tried
returns-in-Moves-clause-tried g c = tried-on-board c.find_attacks.ensures.same_board c.expand_attack.ensures.tried
