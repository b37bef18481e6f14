use Rattle.std.proofs.Common.{rules, ◌∙◌, refl, sym, ap, arith}
use Rattle.proof_number.proofs.Common.{Grid, mover, Search, IsThreatWin, nowhere}
use Rattle.game_rules.proofs.Common.{five_points}
use Rattle.game_rules.proofs.Fives.{first_listed, none_listed}
use Rattle.proof_tree.proofs.SumLaws.{lone-childless}
use Rattle.strategy_compiler.proofs.Growing.{grows-not, writes-fails, writes-memory}
use Rattle.threat_game.proofs.TreeLaws.{few-moves}
use Rattle.proof_number.proofs.Beginning.{begun-open, begun-refused, begun-won, some-won}
use Rattle.game_rules.proofs.Games.{five-threats}
use Rattle.proof_number.proofs.search.Search.begin.Goals as goal

pub returns-in_err-fives-clause-begun : goal.returns-in_err-fives-clause-begun
returns-in_err-fives-clause-begun g c =
    begun-refused c.requires.begins c.side-attacker.ensures.lawful c.len.ensures.tree refl refl (search rules)
    (writes-memory _ _ _ _ (grows-not _ _ _ refl) (search rules))

pub returns-then-self-gt1-clause-begun : goal.returns-then-self-gt1-clause-begun
returns-then-self-gt1-clause-begun g c =
    let b : Grid = g.V.Seen.position c.args.view.now in
    let are = c.as_slice.ensures.items ∙ c.in_ok-fives.ensures.fives ∙ ap (five_points g.R.Rule.KIND b) c.side-attacker.ensures.side in
    let none = c.in-empty.len_below in
    let deep = c.if-self-gt1.true in
    begun-open c.requires.begins c.side-attacker.ensures.lawful c.len.ensures.tree c.len-2.ensures.compiled (omega (arith, deep))
    (none_listed g.R.Rule.KIND b (mover b) c.as_slice.result.now are (omega (arith, none)))

pub one_move-requires-clause-no_five : goal.one_move-requires-clause-no_five
one_move-requires-clause-no_five g c =
    let b : Grid = g.V.Seen.position c.args.view.now in
    let are = c.as_slice.ensures.items ∙ c.in_ok-fives.ensures.fives ∙ ap (five_points g.R.Rule.KIND b) c.side-attacker.ensures.side in
    let none = c.in-empty.len_below in
    none_listed g.R.Rule.KIND b (mover b) c.as_slice.result.now are (omega (arith, none))

pub one_move-requires-clause-one_move : goal.one_move-requires-clause-one_move
one_move-requires-clause-one_move g c =
    let some = c.requires.begins.some_depth in let one = c.if-self-gt1.false in omega (arith, some, one)

pub returns-in_err-win-in-len1-up-clause-begun : goal.returns-in_err-win-in-len1-up-clause-begun
returns-in_err-win-in-len1-up-clause-begun g c =
    let b : Grid = g.V.Seen.position c.args.view.now in
    let are = c.as_slice.ensures.items ∙ c.in_ok-fives.ensures.fives ∙ ap (five_points g.R.Rule.KIND b) c.side-attacker.ensures.side in
    begun-refused c.requires.begins c.side-attacker.ensures.lawful c.len.ensures.tree refl refl (search rules)
    (writes-fails _ _ 1 _ _ _ c.in_err-win-in-len1-up.ensures.writes
    (some-won c.requires.begins c.side-attacker.ensures.lawful c.len.ensures.tree
    (five-threats g.R.Rule.KIND b _ c.args.self.now.depth
    (first_listed g.R.Rule.KIND b (mover b) c.as_slice.result.now nowhere are c.in-len1-up.len_at_least) c.requires.begins.some_depth))
    (search rules))

pub settle_won-requires-clause-in_tree : goal.settle_won-requires-clause-in_tree
settle_won-requires-clause-in_tree g c = let one = c.requires.begins.one_node in omega (arith, one)

pub settle_won-requires-clause-childless : goal.settle_won-requires-clause-childless
settle_won-requires-clause-childless g c = lone-childless c.args.tree.now c.len.ensures.tree c.requires.begins.one_node

pub settle_won-requires-clause-noted : goal.settle_won-requires-clause-noted
settle_won-requires-clause-noted g c = let one = c.requires.begins.new.one in omega (arith, one)

pub settle_won-requires-clause-few : goal.settle_won-requires-clause-few
settle_won-requires-clause-few g c =
    let b : Grid = g.V.Seen.position c.args.view.now in
    let are = c.as_slice.ensures.items ∙ c.in_ok-fives.ensures.fives ∙ ap (five_points g.R.Rule.KIND b) c.side-attacker.ensures.side in
    let is : IsThreatWin g.R.Rule.KIND c.args.self.now.depth b c.compile_five.new.compiler c.in_ok-win-in-len1-up.win =
    c.in_ok-win-in-len1-up.ensures.win g.R.Rule.KIND b c.args.self.now.depth c.side-attacker.ensures.lawful
    (first_listed g.R.Rule.KIND b (mover b) c.as_slice.result.now _ are c.in-len1-up.len_at_least) c.requires.begins.some_depth in
    few-moves g.R.Rule.KIND c.args.self.now.depth b c.compile_five.new.compiler c.in_ok-win-in-len1-up.win c.requires.begins.depth_fits is

pub returns-in-len1-up-clause-begun : goal.returns-in-len1-up-clause-begun
returns-in-len1-up-clause-begun g c =
    let b : Grid = g.V.Seen.position c.args.view.now in
    let are = c.as_slice.ensures.items ∙ c.in_ok-fives.ensures.fives ∙ ap (five_points g.R.Rule.KIND b) c.side-attacker.ensures.side in
    let is : IsThreatWin g.R.Rule.KIND c.args.self.now.depth b c.compile_five.new.compiler c.in_ok-win-in-len1-up.win =
    c.in_ok-win-in-len1-up.ensures.win g.R.Rule.KIND b c.args.self.now.depth c.side-attacker.ensures.lawful
    (first_listed g.R.Rule.KIND b (mover b) c.as_slice.result.now _ are c.in-len1-up.len_at_least) c.requires.begins.some_depth in
    begun-won c.requires.begins c.side-attacker.ensures.lawful c.len.ensures.tree
    (c.settle_won.ensures.rest ∙ ap (λ (w : Search). record c.args.self.now { board = w.board; notes = c.settle_won.new.self.notes })
    (sym c.settle_won.ensures.rest)) (ap (λ (w : Search). w.board) c.settle_won.ensures.rest) c.settle_won.ensures.notes
    c.settle_won.ensures.settled c.in_ok-win-in-len1-up.ensures.writes is
