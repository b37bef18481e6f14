use Rattle.std.proofs.Common.{rules, ◌∙◌, refl, sym, ap, arith}
use Rattle.proof_tree.proofs.SumLaws.{lone-childless}
use Rattle.strategy_compiler.proofs.Growing.{writes-fails}
use Rattle.proof_number.proofs.Common.{Search, IsThreatWin}
use Rattle.threat_game.proofs.TreeLaws.{few-moves}
use Rattle.proof_number.proofs.Beginning.{begun-lost, begun-refused, begun-won, some-won}
use Rattle.threat_game.proofs.AttackLaws.{last-wins}
use Rattle.proof_number.proofs.search.Search.one_move.Goals as goal

pub settle_won-requires-clause-in_tree : goal.settle_won-requires-clause-in_tree
settle_won-requires-clause-in_tree g c = let one = c.requires.begins.one_node in omega (arith, one)

pub settle_won-requires-clause-childless : goal.settle_won-requires-clause-childless
settle_won-requires-clause-childless g c = lone-childless c.args.tree.now c.requires.tree c.requires.begins.one_node

pub settle_won-requires-clause-noted : goal.settle_won-requires-clause-noted
settle_won-requires-clause-noted g c = let one = c.requires.begins.new.one in omega (arith, one)

pub settle_won-requires-clause-few : goal.settle_won-requires-clause-few
settle_won-requires-clause-few g c =
    let one = c.requires.one_move in
    let is : IsThreatWin g.R.Rule.KIND c.args.self.now.depth (g.V.Seen.position c.args.view.now) c.compile_last.new.compiler
    c.in_ok-win-in-Some.win =
    c.in_ok-win-in-Some.ensures.win g.R.Rule.KIND (g.V.Seen.position c.args.view.now) c.args.self.now.depth c.requires.lawful
    c.in-Some.ensures.last (omega (arith, one)) in
    few-moves g.R.Rule.KIND c.args.self.now.depth (g.V.Seen.position c.args.view.now) c.compile_last.new.compiler c.in_ok-win-in-Some.win
    (omega (arith, one)) is

pub returns-in_err-win-in-Some-clause-begun : goal.returns-in_err-win-in-Some-clause-begun
returns-in_err-win-in-Some-clause-begun g c =
    begun-refused c.requires.begins c.requires.lawful c.requires.tree refl c.last_move.ensures.same_board (search rules)
    (writes-fails _ _ 1 _ _ _ c.in_err-win-in-Some.ensures.writes
    (some-won c.requires.begins c.requires.lawful c.requires.tree
    (rw c.requires.one_move (last-wins g.R.Rule.KIND (g.V.Seen.position c.args.view.now) _ c.in-Some.ensures.last 0)))
    (search rules))

pub returns-in_ok-win-in-Some-clause-begun : goal.returns-in_ok-win-in-Some-clause-begun
returns-in_ok-win-in-Some-clause-begun g c =
    let one = c.requires.one_move in
    let is : IsThreatWin g.R.Rule.KIND c.args.self.now.depth (g.V.Seen.position c.args.view.now) c.compile_last.new.compiler
    c.in_ok-win-in-Some.win =
    c.in_ok-win-in-Some.ensures.win g.R.Rule.KIND (g.V.Seen.position c.args.view.now) c.args.self.now.depth c.requires.lawful
    c.in-Some.ensures.last (omega (arith, one)) in
    begun-won c.requires.begins c.requires.lawful c.requires.tree
    (c.settle_won.ensures.rest ∙ ap (λ (w : Search). record c.args.self.now { board = w.board; notes = c.settle_won.new.self.notes })
    (sym c.settle_won.ensures.rest))
    (ap (λ (w : Search). w.board) c.settle_won.ensures.rest ∙ c.last_move.ensures.same_board) c.settle_won.ensures.notes
    c.settle_won.ensures.settled c.in_ok-win-in-Some.ensures.writes is

pub returns-in-None-clause-begun : goal.returns-in-None-clause-begun
returns-in-None-clause-begun g c =
    begun-lost c.requires.begins c.requires.lawful c.requires.tree {v = record c.args.self.now { board = c.last_move.new.board }} refl
    c.last_move.ensures.same_board
    (record {
      links = c.settle_at.ensures.links;
      settled = c.settle_at.ensures.settled;
      others = c.settle_at.ensures.others;
      leaves = c.settle_at.ensures.leaves;
      tree = c.settle_at.ensures.tree;
    })
    c.requires.compiled c.requires.one_move c.in-None.ensures.no_win

pub settle_at-requires-clause-in_tree : goal.settle_at-requires-clause-in_tree
settle_at-requires-clause-in_tree g c = let one = c.requires.begins.one_node in omega (arith, one)

pub settle_at-requires-clause-childless : goal.settle_at-requires-clause-childless
settle_at-requires-clause-childless g c = lone-childless c.args.tree.now c.requires.tree c.requires.begins.one_node
